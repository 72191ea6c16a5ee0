-- What a run of a script prints.
use Rattle.std.specs.Prelude.{◌≡◌, ℕ, ◌<◌, ◌≤◌, List, ◌++◌, length, codes, decimal, encode_utf8}
use Rattle.std.specs.List.{flat_map}
use Rattle.machine.specs.Model.{Fixed, State, fresh_state}
use Rattle.next_fit.specs.Laws.{next_fit_lawful}
use Rattle.next_fit.specs.Placement.{next_fit}
use Rattle.script.specs.Runs.{Ran}
use Rattle.script.specs.Texts.{fault_text, outcome_text}
use Rattle.script.specs.declared.fault.ScriptFault.TheVariants.{Text}
use Rattle.script.specs.declared.outcome.LineOutcome.{LineOutcome}

-- the line of an outcome
abbrev pub line_text : LineOutcome → List ℕ
line_text o = outcome_text o ++ codes "\n"

-- a machine's part: its letter with the granules, then a line for each outcome
abbrev pub part_text : ℕ → ℕ → List LineOutcome → List ℕ
part_text letter granules os = encode_utf8 letter ++ (codes " " ++ (decimal granules ++ (codes "\n" ++ flat_map line_text os)))

-- what is fixed of the machine that runs a script: 32 granules, of which at most 24 may be taken, placed by next fit
abbrev pub run_fixed : Fixed
run_fixed = record { memory_granules = 32; allocator_granules = 32; most = 24; place = next_fit; lawful = next_fit_lawful }

-- what a script prints: the part of what its lines come to on a fresh machine, or the one line of a script that is too long
pub record Prints (script text : List ℕ) : Type 0 where
  pub run : length script ≤ 32768 → (os : List LineOutcome) × (t : State) × Ran run_fixed (fresh_state run_fixed) t script os × (text ≡ part_text 66 32 os)
  pub too_long : 32768 < length script → text ≡ fault_text (Text (record { line = 0; word = 0 })) ++ codes "\n"

-- A script's lines on a machine: what each comes to, and the state at the end.
use Rattle.std.specs.Prelude.{◌≡◌, ℕ, ◌<◌, ◌≤◌, List, [], ◌∷◌, length, Ok, Err, vec_items, Result, Vec}
use Rattle.call.specs.declared.Call.{Call as TheCall}
use Rattle.machine.specs.Calls.{call_of}
use Rattle.machine.specs.Model.{Fixed, State, outcome, state_after}
use Rattle.machine.specs.Rules.{perform}
use Rattle.machine.specs.declared.fault.MachineFault.{MachineFault}
use Rattle.reader.specs.Scripts.{Readings, numbered_lines}
use Rattle.reader.specs.declared.place.Place.{Place}
use Rattle.reader.specs.declared.script.Entry.{Entry}
use Rattle.script.specs.declared.fault.LineFault.{LineFault}
use Rattle.script.specs.declared.fault.ScriptFault.{ScriptFault}
use Rattle.script.specs.declared.fault.ScriptFault.TheVariants.{Text, Call}
use Rattle.script.specs.declared.fault.RunError.{RunError}
use Rattle.script.specs.declared.fault.RunError.TheVariants.{Denied, Memory}
use Rattle.script.specs.declared.outcome.LineOutcome.{LineOutcome}

-- a machine's answer at a line: its fault gets the line
abbrev pub answer_at : ℕ → Result ℕ MachineFault → Result ℕ LineFault
answer_at n (Ok x) = Ok x
answer_at n (Err f) = Err (record { line = n; fault = f })

abbrev pub script_answer_at : Result ℕ LineFault → Result ℕ ScriptFault
script_answer_at (Ok x) = Ok x
script_answer_at (Err f) = Err (Call f)

-- what a line comes to: TEXT if it reads as no call, else what the machine answers
abbrev pub reading_outcome : Fixed → State → ℕ → Result TheCall Place → Result ℕ ScriptFault
reading_outcome K s n (Err p) = Err (Text p)
reading_outcome K s n (Ok c) = script_answer_at (answer_at n (outcome (perform K s (call_of c))))

-- the state after a line: a line that reads as no call changes nothing
abbrev pub reading_state : Fixed → State → Result TheCall Place → State
reading_state K s (Err p) = s
reading_state K s (Ok c) = state_after s (perform K s (call_of c))

abbrev pub line_outcome : Fixed → State → Entry → LineOutcome
line_outcome K s e = record { line = e.line; outcome = reading_outcome K s e.line e.reading }

-- all lines, one after another
abbrev pub outcomes_of : Fixed → State → List Entry → List LineOutcome
outcomes_of K s [] = []
outcomes_of K s (e ∷ es) = line_outcome K s e ∷ outcomes_of K (reading_state K s e.reading) es

abbrev pub state_of : Fixed → State → List Entry → State
state_of K s [] = s
state_of K s (e ∷ es) = state_of K (reading_state K s e.reading) es

-- a run of a script: some entries are what its lines read as, and the outcomes and the last state are theirs
pub record Ran (K : Fixed) (s t : State) (script : List ℕ) (os : List LineOutcome) : Type 0 where
  pub entries : List Entry
  pub short : length script ≤ 32768
  pub readings : Readings (numbered_lines script) entries
  pub outcomes : os ≡ outcomes_of K s entries
  pub state : t ≡ state_of K s entries

-- a script that is too long is TEXT at line 0, word 0; without memory for the outcomes nothing is said of them
abbrev pub RunsScript : {Z : Type 0} → Fixed → State → State → List ℕ → Result (Vec LineOutcome Z) RunError → Type 0
RunsScript K s t script (Ok v) = Ran K s t script (vec_items v)
RunsScript K s t script (Err (Denied f)) = (32768 < length script) × (f ≡ Text (record { line = 0; word = 0 }))
RunsScript K s t script (Err (Memory e)) = length script ≤ 32768

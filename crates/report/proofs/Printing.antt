-- A script's part on the machine that runs scripts.
use Rattle.std.proofs.Common.{◌≡◌, ℕ, List, length, min, replicate, false, subst, arith}
use Rattle.allocator.specs.declared.cell.Cell.TheVariants.{Free}
use Rattle.machine.specs.Model.{Fixed, State, empty_registers, fresh_state}
use Rattle.machine.specs.declared.registers.Registers.{Registers}
use Rattle.memory.specs.Flats.{flat_bytes, flat_tags}
use Rattle.next_fit.specs.Bitmaps.{map_of}
use Rattle.next_fit.specs.Laws.{next_fit_lawful}
use Rattle.next_fit.specs.Placement.{next_fit}
use Rattle.report.specs.Texts.{Prints, part_text, run_fixed}
use Rattle.script.specs.Runs.{Ran}
use Rattle.script.specs.declared.outcome.LineOutcome.{LineOutcome}

-- what is fixed of a machine over flat memory and a quota over next fit
abbrev pub fixed_over : List ℕ → List ℕ → List ℕ → List ℕ → ℕ → Fixed
fixed_over bs ts us fs limit = record {
  memory_granules = length (flat_tags bs ts);
  allocator_granules = length (map_of us fs);
  most = min limit (length (map_of us fs));
  place = next_fit;
  lawful = next_fit_lawful;
}

abbrev pub state_over : Registers → List ℕ → List ℕ → List ℕ → List ℕ → ℕ → State
state_over rs bs ts us fs mark = record (fresh_state run_fixed) {
  registers = rs;
  bytes = flat_bytes bs ts;
  tags = flat_tags bs ts;
  cells = map_of us fs;
  mark = mark;
}

pub fixed_is : (bs ts us fs : List ℕ) (limit : ℕ) → flat_tags bs ts ≡ replicate 32 false → map_of us fs ≡ replicate 32 Free → limit ≡ 24 → fixed_over bs ts us fs limit ≡ run_fixed
fixed_is bs ts us fs limit p q r = λ i. record {
  memory_granules = length (p i);
  allocator_granules = length (q i);
  most = min (r i) (length (q i));
  place = next_fit;
  lawful = next_fit_lawful;
}

pub state_is : (rs : Registers) (bs ts us fs : List ℕ) (mark : ℕ) → rs ≡ empty_registers → flat_bytes bs ts ≡ replicate 512 0 → flat_tags bs ts ≡ replicate 32 false → map_of us fs ≡ replicate 32 Free → mark ≡ 0
    → state_over rs bs ts us fs mark ≡ fresh_state run_fixed
state_is rs bs ts us fs mark o b p q m = λ i. record (fresh_state run_fixed) {
  registers = o i;
  bytes = b i;
  tags = p i;
  cells = q i;
  mark = m i;
}

pub prints : (K : Fixed) (s t : State) (script text : List ℕ) (os : List LineOutcome) → K ≡ run_fixed → s ≡ fresh_state run_fixed → Ran K s t script os → text ≡ part_text 66 32 os → Prints script text
prints K s t script text os k e r p = record {
  run = λ h. (os, t, subst (λ (x : State). Ran run_fixed x t script os) e (subst (λ (L : Fixed). Ran L s t script os) k r), p);
  too_long = λ h. absurd (omega (arith, r.short));
}

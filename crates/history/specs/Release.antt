-- Memory returns exactly when the sweep ends.
use Rattle.std.specs.Prelude.{◌≡◌, ℕ, ◌+◌, ◌/◌, ◌<◌, ◌≤◌, List, [], ◌∷◌, ◌++◌, Ok, Err, slice_index_or}
use Rattle.allocator.specs.declared.cell.Cell.TheVariants.{Free}
use Rattle.allocator.specs.Maps.{run_length}
use Rattle.machine.specs.Calls.{Call}
use Rattle.machine.specs.Model.{Fixed, State}
use Rattle.quarantine.specs.declared.run.Run.{Run}
use Rattle.history.specs.Histories.{Outcome, Sized, after, answer_to, outcomes}

-- granule g lies in a run
abbrev pub InRun : Run → ℕ → Type 0
InRun r g = (r.start ≤ g) × (g < r.start + r.length)

-- granule g is free
abbrev pub IsFree : State → ℕ → Type 0
IsFree s g = slice_index_or s.cells g Free ≡ Free

-- none of a run's granules is free
abbrev pub NoneFree : State → Run → Type 0
NoneFree s r = (g : ℕ) → InRun r g → IsFree s g → ⊥

abbrev pub AllFree : State → Run → Type 0
AllFree s r = (g : ℕ) → InRun r g → IsFree s g

-- the run that begins at an address
abbrev pub run_from : State → ℕ → Run
run_from s at = record { start = at / 16; length = run_length s.cells (at / 16) }

-- a run waits after a history: an accepted free took it, and none of its granules has been free since
pub record Waits (K : Fixed) (p : List Call) (r : Run) : Type 0 where
  pub before : List Call
  pub compartment : ℕ
  pub register : ℕ
  pub since : List Call
  pub at : ℕ
  pub history : p ≡ before ++ (Call.Free compartment register ∷ since)
  pub freed : answer_to K before (Call.Free compartment register) ≡ Ok at
  pub run : r ≡ run_from (after K before) at
  pub taken : (xs ys : List Call) → since ≡ xs ++ ys → NoneFree (after K (before ++ (Call.Free compartment register ∷ xs))) r

-- the granules that a call names, if it is an accepted step
abbrev pub step_size : Call → ℕ
step_size (Call.Grant c r n) = 0
step_size (Call.Free c r) = 0
step_size (Call.Derive c r s lo len p) = 0
step_size (Call.Getb c r off) = 0
step_size (Call.Putb c r off v) = 0
step_size (Call.Putc c r off s) = 0
step_size (Call.Getc c r off s) = 0
step_size (Call.Give c r d s) = 0
step_size (Call.Drop c r) = 0
step_size Call.OpenSweep = 0
step_size (Call.Step k) = k
step_size Call.Shut = 0

abbrev pub granules_named : Call → Outcome → ℕ
granules_named x (Err f) = 0
granules_named x (Ok a) = step_size x

abbrev pub granules_named_in : List Call → List Outcome → ℕ
granules_named_in [] os = 0
granules_named_in (x ∷ xs) [] = 0
granules_named_in (x ∷ xs) (o ∷ os) = granules_named x o + granules_named_in xs os

-- a call other than an accepted shut
abbrev pub IsNoShut : Call → Type 0
IsNoShut (Call.Grant c r n) = Unit {0}
IsNoShut (Call.Free c r) = Unit {0}
IsNoShut (Call.Derive c r s lo len p) = Unit {0}
IsNoShut (Call.Getb c r off) = Unit {0}
IsNoShut (Call.Putb c r off v) = Unit {0}
IsNoShut (Call.Putc c r off s) = Unit {0}
IsNoShut (Call.Getc c r off s) = Unit {0}
IsNoShut (Call.Give c r d s) = Unit {0}
IsNoShut (Call.Drop c r) = Unit {0}
IsNoShut Call.OpenSweep = Unit {0}
IsNoShut (Call.Step k) = Unit {0}
IsNoShut Call.Shut = ⊥

abbrev pub NoShut : Call → Outcome → Type 0
NoShut x (Err f) = Unit {0}
NoShut x (Ok a) = IsNoShut x

abbrev pub NoShuts : List Call → List Outcome → Type 0
NoShuts [] os = Unit {0}
NoShuts (x ∷ xs) [] = Unit {0}
NoShuts (x ∷ xs) (o ∷ os) = NoShut x o × NoShuts xs os

-- the outcomes of the calls q after an open at the end of p
abbrev pub outcomes_since : Fixed → List Call → List Call → List Outcome
outcomes_since K p q = outcomes K (after K (p ++ (Call.OpenSweep ∷ []))) q

-- the granules named by accepted steps since the open at the end of p
abbrev pub granules_since : Fixed → List Call → List Call → ℕ
granules_since K p q = granules_named_in q (outcomes_since K p q)

-- what holds of a run that waits at an accepted open, after calls q with no accepted shut whose steps name fewer granules than the memory has:
-- it is not free; it is free after the step with which they reach the memory's number; after a shut it waits again
pub record Returns (K : Fixed) (p q : List Call) (r : Run) : Type 0 where
  pub not_yet : NoneFree (after K (p ++ (Call.OpenSweep ∷ q))) r
  pub then : (k a : ℕ) → answer_to K (p ++ (Call.OpenSweep ∷ q)) (Call.Step k) ≡ Ok a → K.memory_granules ≤ granules_since K p q + k
      → AllFree (after K (p ++ (Call.OpenSweep ∷ (q ++ (Call.Step k ∷ []))))) r
  pub shut : (a : ℕ) → answer_to K (p ++ (Call.OpenSweep ∷ q)) Call.Shut ≡ Ok a → Waits K (p ++ (Call.OpenSweep ∷ (q ++ (Call.Shut ∷ [])))) r

-- a granule that becomes free with a call: the call is the step that ends a sweep, and the granule lies in a run that waited at that sweep's open
pub record FreedBySweep (K : Fixed) (p : List Call) (x : Call) (g : ℕ) : Type 0 where
  pub before : List Call
  pub since : List Call
  pub k : ℕ
  pub opened : ℕ
  pub run : Run
  pub history : p ≡ before ++ (Call.OpenSweep ∷ since)
  pub step : x ≡ Call.Step k
  pub open_accepted : answer_to K before Call.OpenSweep ≡ Ok opened
  pub no_shut : NoShuts since (outcomes_since K before since)
  pub not_before : granules_since K before since < K.memory_granules
  pub reached : K.memory_granules ≤ granules_since K before since + k
  pub waited : Waits K before run
  pub inside : InRun run g

abbrev pub MemoryReturnsWhenTheSweepEnds : Type 0
MemoryReturnsWhenTheSweepEnds =
    ((K : Fixed) (p q : List Call) (r : Run) (a : ℕ) → Sized K → answer_to K p Call.OpenSweep ≡ Ok a → Waits K p r →
    NoShuts q (outcomes_since K p q) → granules_since K p q < K.memory_granules → Returns K p q r)
    × ((K : Fixed) (p : List Call) (x : Call) (g : ℕ) → Sized K → (IsFree (after K p) g → ⊥) → IsFree (after K (p ++ (x ∷ []))) g → FreedBySweep K p x g)

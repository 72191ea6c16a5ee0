-- Histories: lists of calls from a fresh machine on, with their outcomes.
use Rattle.std.specs.Prelude.{ℕ, ◌≤◌, List, [], ◌∷◌, Result}
use Rattle.machine.specs.Calls.{Call}
use Rattle.machine.specs.Model.{Fixed, State, fresh_state, outcome, state_after}
use Rattle.machine.specs.Rules.{perform}
use Rattle.machine.specs.declared.fault.MachineFault.{MachineFault}
use Rattle.memory.specs.Memories.{most_granules}

-- an answer, or the fault of a denial
abbrev pub Outcome : Type 0
Outcome = Result ℕ MachineFault

-- the outcomes of calls, in order, from a state on
abbrev pub outcomes : Fixed → State → List Call → List Outcome
outcomes K s [] = []
outcomes K s (x ∷ xs) = outcome (perform K s x) ∷ outcomes K (state_after s (perform K s x)) xs

-- the state after calls
abbrev pub state_after_all : Fixed → State → List Call → State
state_after_all K s [] = s
state_after_all K s (x ∷ xs) = state_after_all K (state_after s (perform K s x)) xs

-- after a history of a fresh machine
abbrev pub after : Fixed → List Call → State
after K p = state_after_all K (fresh_state K) p

abbrev pub outcomes_of : Fixed → List Call → List Outcome
outcomes_of K p = outcomes K (fresh_state K) p

-- the outcome of one more call
abbrev pub answer_to : Fixed → List Call → Call → Outcome
answer_to K p x = outcome (perform K (after K p) x)

-- a memory has at most 1,024 granules
abbrev pub Sized : Fixed → Type 0
Sized K = K.memory_granules ≤ most_granules

-- One line more of a script.
use Rattle.std.proofs.Common.{◌≡◌, ℕ, ◌+◌, ◌<◌, List, [], ◌∷◌, ◌++◌, length, get_or, take, refl, ap, ◌∙◌}
use Rattle.std.proofs.lemmas.List.{take_more}
use Rattle.machine.specs.Model.{Fixed, State}
use Rattle.reader.specs.declared.script.Entry.{Entry}
use Rattle.script.specs.Runs.{line_outcome, outcomes_of, reading_state, state_of}

state_append : (K : Fixed) (s : State) (es fs : List Entry) → state_of K s (es ++ fs) ≡ state_of K (state_of K s es) fs
state_append K s [] fs = refl
state_append K s (e ∷ es) fs = state_append K (reading_state K s e.reading) es fs

outcomes_append : (K : Fixed) (s : State) (es fs : List Entry) → outcomes_of K s (es ++ fs) ≡ outcomes_of K s es ++ outcomes_of K (state_of K s es) fs
outcomes_append K s [] fs = refl
outcomes_append K s (e ∷ es) fs = ap (λ os. line_outcome K s e ∷ os) (outcomes_append K (reading_state K s e.reading) es fs)

-- the state and the outcomes after the first i + 1 entries
pub state_more : (K : Fixed) (s : State) (es : List Entry) (i : ℕ) (d : Entry) → i < length es
    → state_of K s (take (i + 1) es) ≡ reading_state K (state_of K s (take i es)) (get_or es i d).reading
state_more K s es i d h = ap (state_of K s) (take_more es i d h) ∙ state_append K s (take i es) (get_or es i d ∷ [])

pub outcomes_more : (K : Fixed) (s : State) (es : List Entry) (i : ℕ) (d : Entry) → i < length es
    → outcomes_of K s (take (i + 1) es) ≡ outcomes_of K s (take i es) ++ (line_outcome K (state_of K s (take i es)) (get_or es i d) ∷ [])
outcomes_more K s es i d h = ap (outcomes_of K s) (take_more es i d h) ∙ outcomes_append K s (take i es) (get_or es i d ∷ [])

-- The words of a line, and what a line reads as.
use Rattle.std.specs.Prelude.{◌≡◌, ℕ, ◌+◌, ◌-◌, ◌≤◌, cond, List, [], ◌∷◌, ◌++◌, length, take, Ok, Err, Result, ◌==◌, ◌≢◌}
use Rattle.call.specs.declared.Call.{Call}
use Rattle.reader.specs.declared.place.Place.{Place}
use Rattle.reader.specs.Calls.{WritableCall, words_of, text_of}

-- a byte in front of the first part
abbrev pub onto_first : ℕ → List (List ℕ) → List (List ℕ)
onto_first c [] = (c ∷ []) ∷ []
onto_first c (w ∷ ws) = (c ∷ w) ∷ ws

-- the words of a line stand between single spaces
abbrev pub split : List ℕ → List (List ℕ)
split [] = [] ∷ []
split (c ∷ cs) = cond (c == 32) ([] ∷ split cs) (onto_first c (split cs))

-- some call's words begin with these
abbrev pub Begins : List (List ℕ) → Type 0
Begins ws = (c : Call) × (rest : List (List ℕ)) × WritableCall c × (words_of c ≡ ws ++ rest)

-- the first word that is wrong, missing or too many, from 1: some call's words begin with all the words before it, and none's with that one too
pub record Wrong (ws : List (List ℕ)) (k : ℕ) : Type 0 where
  pub counted : (1 ≤ k) × (k ≤ length ws + 1)
  pub before : Begins (take (k - 1) ws)
  pub here : k ≤ length ws → Begins (take k ws) → ⊥

-- what a line reads as: the call whose text it is, or the place of the first wrong word if it is no call's text
abbrev pub Reads : List ℕ → ℕ → Result Call Place → Type 0
Reads line number (Ok c) = WritableCall c × (line ≡ text_of c)
Reads line number (Err p) = (p.line ≡ number) × ((c : Call) → WritableCall c → line ≢ text_of c) × Wrong (split line) p.word

-- a line reads in one way only
abbrev pub ReadsOnce : Type 0
ReadsOnce = (line : List ℕ) (number : ℕ) (r s : Result Call Place) → Reads line number r → Reads line number s → r ≡ s

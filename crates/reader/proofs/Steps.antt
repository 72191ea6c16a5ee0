-- A loop that takes a step at each byte, while a step has an answer.
use Rattle.std.proofs.Common.{◌≡◌, ℕ, ◌+◌, ◌<◌, ◌≤◌, List, [], ◌∷◌, length, get_or, drop, Some, None, Option, refl, ap, ◌∙◌}
use Rattle.std.proofs.lemmas.List.{at_drop_more, at_drop_all}

-- a step, if those before it had answers
abbrev pub step_on : (ℕ → ℕ → Option ℕ) → Option ℕ → ℕ → Option ℕ
step_on step None c = None
step_on step (Some n) c = step n c

-- what the steps over these bytes come to
abbrev pub steps_over : (ℕ → ℕ → Option ℕ) → Option ℕ → List ℕ → Option ℕ
steps_over step o [] = o
steps_over step o (c ∷ cs) = steps_over step (step_on step o c) cs

pub steps_none : (step : ℕ → ℕ → Option ℕ) (cs : List ℕ) → steps_over step None cs ≡ None
steps_none step [] = refl
steps_none step (c ∷ cs) = steps_none step cs

pub steps_more : (step : ℕ → ℕ → Option ℕ) (n m i : ℕ) (bs : List ℕ) → i < length bs → step n (get_or bs i 0) ≡ Some m → steps_over step (Some n) (drop i bs) ≡ steps_over step (Some m) (drop (i + 1) bs)
steps_more step n m i bs h w = at_drop_more (steps_over step (Some n)) bs i 0 h ∙ ap (λ o. steps_over step o (drop (i + 1) bs)) w

pub steps_stop : (step : ℕ → ℕ → Option ℕ) (n i : ℕ) (bs : List ℕ) → i < length bs → step n (get_or bs i 0) ≡ None → steps_over step (Some n) (drop i bs) ≡ None
steps_stop step n i bs h w = at_drop_more (steps_over step (Some n)) bs i 0 h ∙ (ap (λ o. steps_over step o (drop (i + 1) bs)) w ∙ steps_none step (drop (i + 1) bs))

pub steps_all : (step : ℕ → ℕ → Option ℕ) (n i : ℕ) (bs : List ℕ) → length bs ≤ i → steps_over step (Some n) (drop i bs) ≡ Some n
steps_all step n i bs h = at_drop_all (steps_over step (Some n)) bs i h

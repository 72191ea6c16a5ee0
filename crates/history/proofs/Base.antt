-- Small facts on tests, options and intervals.
use Rattle.std.proofs.Common.{◌≡◌, ℕ, ◌+◌, ◌<◌, ◌≤◌, Bool, true, false, cond, ◌&&◌, ltb, leb, ◌⊎◌, List, [], ◌∷◌, ◌++◌, get_or, replicate, refl, inl, inr, arith, rules, Ok, Err, Result}
use Rattle.std.proofs.lemmas.List.{places}
use Rattle.std.proofs.lemmas.Bool.Decides.{nat_tests}
use Rattle.quarantine.specs.declared.run.Run.{Run}

-- Kept as a lemma: `cc` alone takes seconds where the machine's invariant is in scope.
pub err_ok : {X E Y : Type 0} {f : E} {x : X} → ◌≡◌ {A = Result X E} (Err f) (Ok x) → Y
err_ok e = cc

pub none_at : {X : Type 0} (n i : ℕ) (a : X) → get_or (replicate n a) i a ≡ a
none_at n i a = search (rules, places)

-- a tag that stands was not cleared
pub not_cleared : (t : Bool) {y : Bool} → cond t false y ≡ true → (t ≡ false) × (y ≡ true)
not_cleared true e = cc
not_cleared false e = (refl, e)

-- a place in the n from a on
abbrev pub within : ℕ → ℕ → ℕ → Bool
within a n i = leb a i && ltb i (a + n)

pub within_true : (a n g : ℕ) → within a n g ≡ true → (a ≤ g) × (g < a + n)
within_true a n g e = grind (arith, nat_tests)

pub within_is : (a n g : ℕ) → a ≤ g → g < a + n → within a n g ≡ true
within_is a n g lo hi = grind (arith, nat_tests)

-- a run is one of several. Kept beside std's Contains: by recursion on the list, as in_runs and begins_at are.
abbrev pub Among : Run → List Run → Type 0
Among r [] = ⊥
Among r (x ∷ xs) = (r ≡ x) ⊎ Among r xs

pub among_append : (xs ys : List Run) (r : Run) → Among r (xs ++ ys) → Among r xs ⊎ Among r ys
among_append [] ys r h = inr h
among_append (x ∷ xs) ys r (inl e) = inl (inl e)
among_append (x ∷ xs) ys r (inr h) = elim (among_append xs ys r h) [ inl q ↦ inl (inr q) | inr q ↦ inr q ]

pub among_left : (xs ys : List Run) (r : Run) → Among r xs → Among r (xs ++ ys)
among_left [] ys r h = absurd h
among_left (x ∷ xs) ys r (inl e) = inl e
among_left (x ∷ xs) ys r (inr h) = inr (among_left xs ys r h)

pub among_right : (xs ys : List Run) (r : Run) → Among r ys → Among r (xs ++ ys)
among_right [] ys r h = h
among_right (x ∷ xs) ys r h = inr (among_right xs ys r h)

pub among_push : (xs : List Run) (x r : Run) → Among r (xs ++ (x ∷ [])) → Among r xs ⊎ (r ≡ x)
among_push xs x r h = elim (among_append xs (x ∷ []) r h) [ inl q ↦ inl q | inr q ↦ elim q [ inl e ↦ inr e | inr n ↦ absurd n ] ]

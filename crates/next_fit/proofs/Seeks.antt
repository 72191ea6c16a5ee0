-- The steps of a search for free granules.
use Rattle.std.proofs.Common.{inl, inr, length, refl, ◌≡◌, ℕ, zero, suc, ◌+◌, ◌-◌, ◌<◌, ◌≤◌, Bool, true, false, List, get_or, Some, sym, ap, ◌∙◌, arith}
use Rattle.std.proofs.lemmas.Bool.{cases_eq, cases_lt}
use Rattle.std.proofs.lemmas.List.{get_or_past}
use Rattle.next_fit.specs.Placement.{all_free, lowest_fit}

-- a taken granule among the n from b on
taken_among : (us : List Bool) (b n i : ℕ) → i < n → get_or us (b + i) true ≡ true → all_free us b n ≡ false
taken_among us b zero i h e = grind arith
taken_among us b (suc n) i h e =
    elim (cases_eq i n) [ inl q ↦ grind arith | inr q ↦ (let r = taken_among us b n i (omega arith) e in grind arith) ]

-- a candidate that does not fit, or that lies past the last
lowest_skip : (us : List Bool) (n b all : ℕ) → all_free us b n ≡ false → lowest_fit us n b (all - b) ≡ lowest_fit us n (b + 1) (all - (b + 1))
lowest_skip us n b all e =
    elim (cases_lt b all) [
      | inl h ↦ (let k : all - b ≡ suc (all - (b + 1)) = omega arith in rw k (grind arith))
      | inr h ↦ (let k : all - b ≡ 0 = omega arith in let m : all - (b + 1) ≡ 0 = omega arith in rw (k, m) refl)
    ]

-- all candidates from b up to the taken granule b + i have that granule among theirs
lowest_pass : (us : List Bool) (n b i all j : ℕ) → i < n → get_or us (b + i) true ≡ true → j ≤ i + 1 → lowest_fit us n b (all - b) ≡ lowest_fit us n (b + j) (all - (b + j))
lowest_pass us n b i all zero h e l = let z : b + 0 ≡ b = omega arith in rw z
lowest_pass us n b i all (suc j) h e l =
    let at : b + j + (i - j) ≡ b + i = omega arith in
    let more : b + j + 1 ≡ b + suc j = omega arith in
    lowest_pass us n b i all j h e (omega arith)
    ∙ (lowest_skip us n (b + j) all (taken_among us (b + j) n (i - j) (omega arith) (rw at e))
    ∙ ap (λ c. lowest_fit us n c (all - c)) more)

-- a candidate that fits is the answer
pub lowest_hit : (us : List Bool) (n b all : ℕ) → b < all → all_free us b n ≡ true → lowest_fit us n b (all - b) ≡ Some b
lowest_hit us n b all h e = let k : all - b ≡ suc (all - (b + 1)) = omega arith in rw k (grind arith)

-- so the search goes on just behind it
pub behind : (us : List Bool) (n b i all : ℕ) → i < n → true ≡ get_or us (b + i) true → lowest_fit us n (b + (i + 1)) (all - (b + (i + 1))) ≡ lowest_fit us n b (all - b)
behind us n b i all h e = sym (lowest_pass us n b i all (i + 1) h (sym e) (omega arith))

-- n free granules lie inside
pub free_inside : (us : List Bool) (b n : ℕ) → b < length us → all_free us b n ≡ true → b + n ≤ length us
free_inside us b zero h e = omega arith
free_inside us b (suc n) h e = let r = free_inside us b n h (grind arith) in grind (arith, get_or_past)

-- what the goals of the search cite
pub ruleset seek_steps = (behind, free_inside, lowest_hit)

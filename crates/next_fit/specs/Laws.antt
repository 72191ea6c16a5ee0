-- Next fit keeps the placement law.
use Rattle.std.specs.Prelude.{◌≡◌, ℕ, zero, suc, ◌+◌, ◌-◌, ◌<◌, ◌≤◌, Bool, true, false, List, map, length, Some, None, Option, ◌≢◌, slice_index_or, refl}
use Rattle.std.proofs.Common.{inl, inr, sym, ◌∙◌, ap, arith}
use Rattle.std.proofs.lemmas.Bool.{cases_eq, cases_lt, cases_Bool}
use Rattle.std.proofs.lemmas.List.{get_or-map, length-map, get_or_past}
use Rattle.allocator.specs.declared.cell.Cell.{Cell}
use Rattle.allocator.specs.declared.cell.Cell.TheVariants.{Free, Rest}
use Rattle.allocator.specs.Maps.{FreeAt, Lawful}
use Rattle.next_fit.specs.Placement.{all_free, lowest_fit, base_and_mark, is_used, next_fit}

-- all n are free, one by one
all_at : (us : List Bool) (b n k : ℕ) → all_free us b n ≡ true → k < n → slice_index_or us (b + k) true ≡ false
all_at us b zero k e h = grind arith
all_at us b (suc n) k e h =
    elim (cases_eq k n) [ inl q ↦ grind arith | inr q ↦ (all_at us b n k (grind arith) (omega arith)) ]

all_from : (us : List Bool) (b n : ℕ) → ((k : ℕ) → k < n → slice_index_or us (b + k) true ≡ false) → all_free us b n ≡ true
all_from us b zero f = refl
all_from us b (suc n) f =
    let last = f n (omega arith) in let others = all_from us b n (λ k h. f k (omega arith)) in grind arith

-- a base whose n granules are free, below the end of the candidates
abbrev Hit : List Bool → ℕ → ℕ → ℕ → Type 0
Hit us n top x = (all_free us x n ≡ true) × (x < top)

-- what a search answers is a hit
found_by : (us : List Bool) (n b k x : ℕ) → lowest_fit us n b k ≡ Some x → Hit us n (b + k) x
found_by us n b zero x e = absurd cc
found_by us n b (suc k) x e =
    elim (cases_Bool (all_free us b n)) [
      | inl t ↦ (grind arith, grind arith)
      | inr t ↦ (let r = found_by us n (b + 1) k x (grind arith) in (r.0, omega (arith, r.1)))
    ]

-- where a search answers nothing there is no hit
none_by : (us : List Bool) (n b k x : ℕ) → lowest_fit us n b k ≡ None → b ≤ x → x < b + k → all_free us x n ≢ true
none_by us n b zero x e l h t = omega arith
none_by us n b (suc k) x e l h t =
    elim (cases_eq x b) [
      | inl q ↦ grind arith
      | inr q ↦ (none_by us n (b + 1) k x (grind arith) (omega arith) (omega arith) t)
    ]

used_not : (c : Cell) → is_used c ≡ false → c ≡ Free
used_not c e = grind arith

-- past the end a granule counts as used
used_at : (cs : List Cell) (i : ℕ) → slice_index_or (map is_used cs) i true ≡ is_used (slice_index_or cs i Rest)
used_at cs i = elim (cases_lt i (length cs)) [
  | inl h ↦ get_or-map is_used cs i Rest true h
  | inr h ↦ grind (arith, get_or_past, length-map)
]

in_map : (cs : List Cell) (i : ℕ) → slice_index_or (map is_used cs) i true ≡ false → i < length cs
in_map cs i e = grind (arith, get_or_past, length-map)

hit_free : (cs : List Cell) (n x : ℕ) → Hit (map is_used cs) n (length (map is_used cs)) x → FreeAt cs x n
hit_free cs n x h = (ends n h.0, λ k l. used_not (slice_index_or cs (x + k) Rest) (sym (used_at cs (x + k)) ∙ all_at (map is_used cs) x n k h.0 l))
  where
    ends : (m : ℕ) → all_free (map is_used cs) x m ≡ true → x + m ≤ length cs
    ends zero e = omega (arith, h.1, length-map cs is_used)
    ends (suc m) e = omega (arith, in_map cs (x + m) (all_at (map is_used cs) x (suc m) m e (omega arith)))

free_hit : (cs : List Cell) (n b : ℕ) → FreeAt cs b n → all_free (map is_used cs) b n ≡ true
free_hit cs n b h = all_from (map is_used cs) b n (λ k l. used_at cs (b + k) ∙ ap is_used (h.1 k l))

-- what either of two searches found
either_hit :
    (us : List Bool) (n top b next : ℕ) (p q : Option ℕ) →
    ((x : ℕ) → p ≡ Some x → Hit us n top x) → ((x : ℕ) → q ≡ Some x → Hit us n top x) →
    base_and_mark n p (base_and_mark n q None) ≡ Some (b, next) → Hit us n top b
either_hit us n top b next (Some x) q f g e =
    let v : ◌≡◌ {A = ℕ × ℕ} (x, x + n) (b, next) = cc in rw (sym (ap (λ (t : ℕ × ℕ). t.0) v)) (f x refl)
either_hit us n top b next None (Some x) f g e =
    let v : ◌≡◌ {A = ℕ × ℕ} (x, x + n) (b, next) = cc in rw (sym (ap (λ (t : ℕ × ℕ). t.0) v)) (g x refl)
either_hit us n top b next None None f g e = absurd cc

neither : (n : ℕ) (p q : Option ℕ) → base_and_mark n p (base_and_mark n q None) ≡ None → q ≡ None
neither n (Some x) q e = absurd cc
neither n None (Some x) e = absurd cc
neither n None None e = refl

from_mark : (us : List Bool) (n m x : ℕ) → lowest_fit us n m (length us - m) ≡ Some x → Hit us n (length us) x
from_mark us n m x e =
    let r = found_by us n m (length us - m) x e in
    elim (cases_lt m (length us)) [
      | inl h ↦ (r.0, omega (arith, r.1))
      | inr h ↦ (let o : length us - m ≡ 0 = omega arith in let w : ◌≡◌ {A = Option ℕ} None (Some x) = simp o at e in absurd cc)
    ]

from_zero : (us : List Bool) (n x : ℕ) → lowest_fit us n 0 (length us) ≡ Some x → Hit us n (length us) x
from_zero us n x e = let r = found_by us n 0 (length us) x e in (r.0, omega (arith, r.1))

answered_free : (cs : List Cell) (m n b next : ℕ) → next_fit cs m n ≡ Some (b, next) → FreeAt cs b n
answered_free cs m n b next e =
    let us = map is_used cs in
    hit_free cs n b
    (either_hit us n (length us) b next (lowest_fit us n m (length us - m)) (lowest_fit us n 0 (length us)) (from_mark us n m) (from_zero us n) e)

nothing_free : (cs : List Cell) (m n : ℕ) → 0 < n → next_fit cs m n ≡ None → (b : ℕ) → FreeAt cs b n → ⊥
nothing_free cs m n z e b h =
    let us = map is_used cs in
    none_by us n 0 (length us) b (neither n (lowest_fit us n m (length us - m)) (lowest_fit us n 0 (length us)) e)
    (omega arith) (omega (arith, h.0, length-map cs is_used)) (free_hit cs n b h)

-- a rule whose answers are all free answers nothing where nothing is free
none_left : (cs : List Cell) (n : ℕ) (r : Option (ℕ × ℕ)) → ((b next : ℕ) → r ≡ Some (b, next) → FreeAt cs b n) → ((b : ℕ) → FreeAt cs b n → ⊥) → r ≡ None
none_left cs n None f h = refl
none_left cs n (Some x) f h = absurd (h x.0 (f x.0 x.1 refl))

pub next_fit_lawful : Lawful next_fit
next_fit_lawful =
    record {
      answered = λ cs m n b next z e. answered_free cs m n b next e;
      nothing = nothing_free;
      only_then = λ cs m n z h. none_left cs n (next_fit cs m n) (answered_free cs m n) h;
    }

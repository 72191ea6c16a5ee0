-- The length of a run, and how its granules are counted.
use Rattle.std.proofs.Common.{refl, zero, arith, ◌≡◌, ℕ, suc, ◌+◌, ◌<◌, ◌≤◌, true, false, List, length, get_or, drop, sym, ◌∙◌}
use Rattle.std.proofs.lemmas.List.{at_drop_more, at_drop_all, get_or_past}
use Rattle.std.proofs.lemmas.Bool.{cond-true, cond-false}
use Rattle.std.proofs.lemmas.List.FromFn.{length-range_with_len}
use Rattle.std.proofs.lemmas.List.Sums.{prefix_len-le-length}
use Rattle.std.specs.List.{prefix_len, range_with_len}
use Rattle.allocator.specs.contracts.cell.Cell.{the_type}
use denote.Enum.Bare.{sameb}
use Rattle.allocator.specs.declared.cell.Cell.{Cell}
use Rattle.allocator.specs.declared.cell.Cell.TheVariants.{Free, First, Rest}
use Rattle.allocator.specs.Maps.{rests_in_front, run_length, is_rest, is_first}

pub rests_more : (cs : List Cell) (i : ℕ) → i < length cs → is_rest (get_or cs i Free) ≡ true → rests_in_front (drop i cs) ≡ suc (rests_in_front (drop (i + 1) cs))
unfolding rests_in_front
rests_more cs i h e = at_drop_more rests_in_front cs i Free h ∙ cond-true _ _ _ e

pub rests_stop : (cs : List Cell) (i : ℕ) → i < length cs → is_rest (get_or cs i Free) ≡ false → rests_in_front (drop i cs) ≡ 0
unfolding rests_in_front
rests_stop cs i h e = at_drop_more rests_in_front cs i Free h ∙ cond-false _ _ _ e

pub rests_all : (cs : List Cell) (i : ℕ) → length cs ≤ i → rests_in_front (drop i cs) ≡ 0
unfolding rests_in_front
rests_all cs i h = at_drop_all rests_in_front cs i h

pub run_start : (cs : List Cell) (b : ℕ) → true ≡ is_first (get_or cs b Free) → run_length cs b ≡ suc (rests_in_front (drop (b + 1) cs))
unfolding run_length
run_start cs b e = cond-true _ _ _ (sym e)

pub run_none : (cs : List Cell) (b : ℕ) → false ≡ is_first (get_or cs b Free) → 0 ≡ run_length cs b
unfolding run_length
run_none cs b e = sym (cond-false _ _ _ (sym e))

-- what the code's `==` says of a granule
pub first_same : (x : Cell) → sameb the_type x First ≡ is_first x
first_same Free = refl
first_same First = refl
first_same Rest = refl

pub rest_same : (x : Cell) → sameb the_type x Rest ≡ is_rest x
rest_same Free = refl
rest_same First = refl
rest_same Rest = refl

-- a granule that is a first lies inside
pub first_inside : (cs : List Cell) (b : ℕ) → true ≡ is_first (get_or cs b Free) → b < length cs
first_inside cs b e = grind (arith, get_or_past)

-- the rests in front, as the granules of a range that are rests
pub rests_range : (cs : List Cell) (i k : ℕ) → i + k ≡ length cs → prefix_len (λ g. is_rest (get_or cs g Free)) (range_with_len i k) ≡ rests_in_front (drop i cs)
rests_range cs i zero e = grind (arith, rests_all)
rests_range cs i (suc k) e = let h = rests_range cs (i + 1) k (omega arith) in grind (arith, rests_more, rests_stop)

-- there are no more than the range has
pub rests_within : (cs : List Cell) (i k : ℕ) → prefix_len (λ g. is_rest (get_or cs g Free)) (range_with_len i k) ≤ k
rests_within cs i k = grind (arith, prefix_len-le-length, length-range_with_len)

-- what the goals of a run's length cite
pub ruleset run_steps = (first_inside, first_same, run_none)

-- Places of a list after a store or a paste, and the rests at the front of a map.
use Rattle.std.proofs.Common.{◌≡◌, ℕ, zero, suc, ◌+◌, ◌-◌, ◌<◌, ◌≤◌, cond, eqb, List, ◌∷◌, length, get_or, set, replicate, refl, ap, arith}
use lib.Seq.{paste}
use Rattle.std.proofs.lemmas.List.Edits.{length-paste}
use Rattle.std.proofs.lemmas.List.{places, length-replicate, get_or-replicate, get_or-set_same, get_or-set_other}
use Rattle.std.proofs.lemmas.Bool.Decides.{nat_tests}
use Rattle.allocator.specs.declared.cell.Cell.{Cell}
use Rattle.allocator.specs.declared.cell.Cell.TheVariants.{Free, First, Rest}
use Rattle.allocator.specs.Maps.{rests_in_front, run_of}
use Rattle.history.proofs.Base.{within}

pub get_set : {X : Type 0} (l : List X) (i j : ℕ) (v d : X) → i < length l → get_or (set l i v) j d ≡ cond (eqb j i) v (get_or l j d)
get_set {X} l i j v d h = grind (arith, nat_tests, get_or-set_same {A = X}, get_or-set_other {A = X})

pub paste_place : {X : Type 0} (xs ys : List X) (b n i : ℕ) (d : X) → b + n ≤ length xs → length ys ≡ n → get_or (paste xs b ys n) i d ≡ cond (within b n i) (get_or ys (i - b) d) (get_or xs i d)
paste_place xs ys b n i d l e = grind (arith, nat_tests, places)

-- a stretch filled with one value
pub fill_place : {X : Type 0} (xs : List X) (b n i : ℕ) (v d : X) → b + n ≤ length xs → get_or (paste xs b (replicate n v) n) i d ≡ cond (within b n i) v (get_or xs i d)
fill_place {X} xs b n i v d l = grind (arith, nat_tests, paste_place, length-replicate {A = X}, get_or-replicate {A = X})

pub fill_length : {X : Type 0} (xs : List X) (b n : ℕ) (v : X) → b + n ≤ length xs → length (paste xs b (replicate n v) n) ≡ length xs
fill_length {X} xs b n v l = grind (arith, length-paste {A = X}, length-replicate {A = X})

-- a run's own places
pub run_length_of : (n : ℕ) → length (run_of n) ≡ n
run_length_of zero = refl
run_length_of (suc n) = ap suc (length-replicate n Rest)

pub run_place : (n k : ℕ) (d : Cell) → k < n → get_or (run_of n) k d ≡ cond (eqb k 0) First Rest
run_place zero k d h = absurd (omega arith)
run_place (suc n) zero d h = refl
run_place (suc n) (suc k) d h = grind (arith, nat_tests, get_or-replicate {A = Cell})

-- the rests at the front
pub rests_rest : (cs : List Cell) (g : ℕ) → g < rests_in_front cs → get_or cs g Free ≡ Rest
unfolding rests_in_front
rests_rest (Rest ∷ cs) zero h = refl
rests_rest (Rest ∷ cs) (suc g) h = rests_rest cs g (omega arith)
rests_rest _ g h = absurd (omega arith)

pub rests_end : (cs : List Cell) → get_or cs (rests_in_front cs) Free ≡ Rest → ⊥
unfolding rests_in_front
rests_end (Rest ∷ cs) e = rests_end cs e
rests_end _ e = cc

pub rests_least : (cs : List Cell) (n : ℕ) → ((g : ℕ) → g < n → get_or cs g Free ≡ Rest) → n ≤ rests_in_front cs
unfolding rests_in_front
rests_least cs zero h = omega arith
rests_least (Rest ∷ cs) (suc n) h = let i = rests_least cs n (λ g lt. h (suc g) (omega arith)) in omega arith
rests_least _ (suc n) h = let e = h 0 (omega arith) in cc

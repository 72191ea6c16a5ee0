-- The map of two bit lists, and what it is after a run is allocated or released.
use Rattle.std.proofs.Common.{cond, eqb, ◌≡◌, ℕ, zero, suc, ◌+◌, ◌-◌, ◌<◌, ◌≤◌, Bool, true, false, List, map, length, get_or, set, replicate, refl, ap, ◌∙◌, arith, rules}
use lib.Seq.{paste}
use Rattle.std.proofs.lemmas.List.FromFn.{length-map-range_with_len, get_or-map-range_with_len}
use Rattle.std.proofs.lemmas.List.Edits.{length-paste}
use Rattle.std.proofs.lemmas.List.{places, ext_get_or, length-replicate, get_or-replicate, get_or-set_same, get_or-set_other, get_or-map, length-map, get_or_past}
use Rattle.allocator.specs.declared.cell.Cell.{Cell}
use Rattle.allocator.specs.declared.cell.Cell.TheVariants.{Free, First, Rest}
use Rattle.allocator.specs.Maps.{run_of}
use Rattle.bits.specs.Bits.{filled}
use Rattle.next_fit.specs.Bitmaps.{cell_of, cells_of}
use Rattle.next_fit.specs.Placement.{is_used}

pub length_cells : (us fs : List Bool) → length (cells_of us fs) ≡ length us
unfolding cells_of
length_cells us fs = length-map-range_with_len (λ g. cell_of (get_or us g false) (get_or fs g false)) 0 (length us)

pub get_or_cells : (us fs : List Bool) (i : ℕ) (d : Cell) → i < length us → get_or (cells_of us fs) i d ≡ cell_of (get_or us i false) (get_or fs i false)
unfolding cells_of
get_or_cells us fs i d h =
    get_or-map-range_with_len (λ g. cell_of (get_or us g false) (get_or fs g false)) 0 (length us) i i d h (omega arith)

pub cell_free : (f : Bool) → cell_of false f ≡ Free
cell_free true = refl
cell_free false = refl

-- the same at any place, past the end too
pub cell_at : (us fs : List Bool) (i : ℕ) → get_or (cells_of us fs) i Free ≡ cell_of (get_or us i false) (get_or fs i false)
cell_at us fs i = grind (arith, get_or_cells, get_or_past, length_cells, cell_free)

-- the used bits are those of the granules that are not free
pub used_cells : (us fs : List Bool) → map is_used (cells_of us fs) ≡ us
used_cells us fs =
    ext_get_or false (map is_used (cells_of us fs)) us (length-map (cells_of us fs) is_used ∙ length_cells us fs)
    (λ i h.
    let l : i < length us = omega (arith, length-map (cells_of us fs) is_used, length_cells us fs) in
    get_or-map is_used (cells_of us fs) i Free false (omega (arith, length_cells us fs))
    ∙ (ap is_used (get_or_cells us fs i Free l) ∙ used_of (get_or us i false) (get_or fs i false)))
  where
    used_of : (u f : Bool) → is_used (cell_of u f) ≡ u
    used_of true true = refl
    used_of true false = refl
    used_of false true = refl
    used_of false false = refl

paste_below : {X : Type 0} (xs ys : List X) (b n i : ℕ) (d : X) → i < b → b + n ≤ length xs → length ys ≡ n → get_or (paste xs b ys n) i d ≡ get_or xs i d
paste_below xs ys b n i d h l e = search (rules, places)

paste_in : {X : Type 0} (xs ys : List X) (b n i : ℕ) (d : X) → b ≤ i → i < b + n → b + n ≤ length xs → length ys ≡ n → get_or (paste xs b ys n) i d ≡ get_or ys (i - b) d
paste_in xs ys b n i d g h l e = search (rules, places)

paste_above : {X : Type 0} (xs ys : List X) (b n i : ℕ) (d : X) → b + n ≤ i → b + n ≤ length xs → length ys ≡ n → get_or (paste xs b ys n) i d ≡ get_or xs i d
paste_above xs ys b n i d h l e = search (rules, places)

-- n places from b on that lie inside, filled
pub filled_run : {X : Type 0} (xs : List X) (b n : ℕ) (v : X) → b + n ≤ length xs → filled xs b (b + n) v ≡ paste xs b (replicate n v) n
filled_run xs b n v h = let k : b + n - b ≡ n = omega arith in grind arith

pub length_run : (n : ℕ) → length (run_of n) ≡ n
length_run zero = refl
length_run (suc n) = ap suc (length-replicate n Rest)

run_place : (n k : ℕ) (d : Cell) → k < n → get_or (run_of n) k d ≡ cond (eqb k 0) First Rest
run_place zero k d h = absurd (omega arith)
run_place (suc n) zero d h = refl
run_place (suc n) (suc k) d h = grind (arith, get_or-replicate)

-- a run allocated at b, in both bit lists
pub cells_run :
    (us fs : List Bool) (b n : ℕ) → 0 < n → b + n ≤ length us → b + n ≤ length fs →
    cells_of (paste us b (replicate n true) n) (set (paste fs b (replicate n false) n) b true) ≡ paste (cells_of us fs) b (run_of n) n
cells_run us fs b n z hu hf =
    ext_get_or Free (cells_of (paste us b (replicate n true) n) (set (paste fs b (replicate n false) n) b true)) (paste (cells_of us fs) b (run_of n) n)
    (grind (arith, length_cells, length-paste, length-replicate, length_run))
    (λ i h.
    grind (arith, length_cells, length-paste, length-replicate, length_run, cell_at, get_or_cells, paste_below, paste_in, paste_above, get_or-replicate, get_or-set_same, get_or-set_other, run_place, cell_free))

-- a run released at b
pub cells_freed : (us fs : List Bool) (b n : ℕ) → b + n ≤ length us → cells_of (paste us b (replicate n false) n) fs ≡ paste (cells_of us fs) b (replicate n Free) n
cells_freed us fs b n hu =
    ext_get_or Free (cells_of (paste us b (replicate n false) n) fs) (paste (cells_of us fs) b (replicate n Free) n)
    (grind (arith, length_cells, length-paste, length-replicate))
    (λ i h.
    grind (arith, length_cells, length-paste, length-replicate, cell_at, get_or_cells, paste_below, paste_in, paste_above, get_or-replicate, cell_free))

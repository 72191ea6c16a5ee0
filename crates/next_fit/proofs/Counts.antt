-- The map of two buffers: its length, its granules, those that are taken, and its changes.
use Rattle.std.proofs.Common.{zero, count_by, ◌≡◌, ℕ, suc, ◌+◌, ◌*◌, ◌<◌, ◌≤◌, Bool, true, false, cond, List, map, length, get_or, drop, set, replicate, Some, Ok, sym, ap, ◌∙◌, arith}
use lib.Seq.{paste}
use Rattle.bits.proofs.Masks.{zero_bits}
use Rattle.std.proofs.lemmas.List.{get_or-map, length-map, get_or_past, get_or_default, at_drop_more, at_drop_all, ext_get_or, length-replicate, get_or-replicate}
use Rattle.std.proofs.lemmas.List.Sums.{sum_by-cons}
use Rattle.std.specs.List.{range_with_len}
use Rattle.allocator.specs.Allocators.{admitting, allocating, releasing}
use Rattle.allocator.specs.declared.cell.Cell.{Cell}
use Rattle.allocator.specs.declared.cell.Cell.TheVariants.{Free, First, Rest}
use Rattle.allocator.specs.Maps.{is_free, taken_in, run_length, run_of}
use Rattle.bits.specs.Bits.{bits_of, filled, length_bits}
use Rattle.next_fit.specs.Bitmaps.{cell_of, cells_of, granules_of, map_of}
use Rattle.next_fit.specs.Placement.{is_used, next_fit}
use Rattle.next_fit.proofs.Cells.{cell_at, cell_free, cells_freed, cells_run, filled_run, length_cells, used_cells}

-- the number of granules is the length of the map
pub counted : (us fs : List ℕ) (r : ℕ) → r ≡ granules_of (length us) (length fs) → r ≡ length (map_of us fs)
counted us fs r e = grind (arith, length_cells, length_bits)

-- a granule of the map, by its two bits; past the last it is free
pub cell_past : (us fs : List ℕ) (r g : ℕ) → r ≡ granules_of (length us) (length fs) → r ≤ g → get_or (map_of us fs) g Free ≡ Free
cell_past us fs r g e h = grind (arith, counted, get_or_past)

pub cell_there : (us fs : List ℕ) (r g : ℕ) → r ≡ granules_of (length us) (length fs) → g < r → get_or (map_of us fs) g Free ≡ cell_of (get_or (bits_of us) g false) (get_or (bits_of fs) g false)
cell_there us fs r g e h = grind (arith, cell_at)

-- whether a granule is taken, by its bit; past the last it is
pub taken_past : (us fs : List ℕ) (r g : ℕ) → r ≡ granules_of (length us) (length fs) → r ≤ g → get_or (map is_used (map_of us fs)) g true ≡ true
taken_past us fs r g e h = grind (arith, counted, length-map, get_or_past)

pub taken_there : (us fs : List ℕ) (r g : ℕ) → r ≡ granules_of (length us) (length fs) → g < r → get_or (map is_used (map_of us fs)) g true ≡ get_or (bits_of us) g false
taken_there us fs r g e h = grind (arith, used_cells, get_or_default, length_bits)

-- and of the list that says which are taken
pub length_used : (us fs : List ℕ) (r : ℕ) → r ≡ granules_of (length us) (length fs) → length (map is_used (map_of us fs)) ≡ r
length_used us fs r e = grind (arith, counted, length-map)

-- buffers of the same sizes have as many granules
pub length_same : (us fs vs gs : List ℕ) → length vs ≡ length us → length gs ≡ length fs → length (map_of vs gs) ≡ length (map_of us fs)
length_same us fs vs gs p q = grind (arith, length_cells, length_bits)

-- the map after the writes of an allocation
map_allocated :
    (us fs us' fs' : List ℕ) (b n : ℕ) → 0 < n → b + n ≤ length (map_of us fs) → length us' ≡ length us → length fs' ≡ length fs →
    bits_of us' ≡ filled (bits_of us) b (b + n) true → bits_of fs' ≡ set (filled (bits_of fs) b (b + n) false) b true →
    map_of us' fs' ≡ paste (map_of us fs) b (run_of n) n
map_allocated us fs us' fs' b n z w lu lf pu pf = grind (arith, length_bits, length_cells, filled_run, cells_run)

-- an allocation that was admitted, with the place that the rule answered
pub allocated :
    (us fs us' fs' : List ℕ) (m n b next : ℕ) (u : Unit {0}) → Ok u ≡ admitting (map_of us fs) (length (map_of us fs)) n →
    Some (b, next) ≡ next_fit (map_of us fs) m n → b + n ≤ length (map_of us fs) → length us' ≡ length us → length fs' ≡ length fs →
    bits_of us' ≡ filled (bits_of us) b (b + n) true → bits_of fs' ≡ set (filled (bits_of fs) b (b + n) false) b true →
    map_of us' fs' ≡ (allocating next_fit (map_of us fs) m (length (map_of us fs)) n).cells
allocated us fs us' fs' m n b next u e f w lu lf pu pf =
    let z : 0 < n = grind arith in
    let r : taken_in (map_of us fs) + n ≤ length (map_of us fs) = grind arith in
    let k = map_allocated us fs us' fs' b n z w lu lf pu pf in
    grind arith

-- the map after the write of a release
pub map_released :
    (us fs us' : List ℕ) (b n : ℕ) → 0 < n → b + n ≤ length (map_of us fs) → length us' ≡ length us →
    bits_of us' ≡ filled (bits_of us) b (b + n) false → map_of us' fs ≡ paste (map_of us fs) b (replicate n Free) n
map_released us fs us' b n z w lu p = grind (arith, length_bits, length_cells, filled_run, cells_freed)

-- a release of a run
pub releasing_whole :
    (cs : List Cell) (m b n : ℕ) → 0 < n → n ≡ run_length cs b →
    releasing cs m b ≡ record { answer = Ok n; cells = paste cs b (replicate n Free) n; mark = m }
releasing_whole cs m b n z e = grind arith

-- two zeroed buffers: all granules are free
pub cells_fresh : (n m : ℕ) → cells_of (bits_of (replicate n 0)) (bits_of (replicate m 0)) ≡ replicate (8 * n) Free
cells_fresh n m =
    ext_get_or Free (cells_of (bits_of (replicate n 0)) (bits_of (replicate m 0))) (replicate (8 * n) Free)
    (grind (arith, length_cells, length_bits, length-replicate))
    (λ i h. grind (arith, length_cells, length_bits, length-replicate, cell_at, zero_bits, cell_free, get_or-replicate))

-- the taken granules, as the places of a range at which a test says so
taken_range :
    (cs : List Cell) (p : ℕ → Bool) (i k : ℕ) → i + k ≡ length cs → ((g : ℕ) → g < length cs → p g ≡ is_used (get_or cs g Free)) →
    count_by p (range_with_len i k) ≡ taken_in (drop i cs)
unfolding taken_in
taken_range cs p i zero e f = sym (at_drop_all taken_in cs i (omega arith))
taken_range cs p i (suc k) e f =
    let here = f i (omega arith) in
    let after = taken_range cs p (i + 1) k (omega arith) f in
    sum_by-cons (λ g. cond {A = ℕ} (p g) 1 0) i (range_with_len (i + 1) k)
    ∙ (one_more (p i) (get_or cs i Free) _ _ here after ∙ sym (at_drop_more taken_in cs i Free (omega arith)))
  where
    one_more : (t : Bool) (x : Cell) (m n : ℕ) → t ≡ is_used x → m ≡ n → cond t 1 0 + m ≡ cond (is_free x) n (suc n)
    one_more t Free m n q h = grind arith
    one_more t First m n q h = grind arith
    one_more t Rest m n q h = grind arith

-- and so of the places whose used bit is set
pub taken_counted :
    (us fs : List ℕ) (r : ℕ) → r ≡ granules_of (length us) (length fs) →
    count_by (λ g. get_or (bits_of us) g false) (range_with_len 0 r) ≡ taken_in (map_of us fs)
taken_counted us fs r e =
    taken_range (map_of us fs) (λ g. get_or (bits_of us) g false) 0 r (grind (arith, counted))
    (λ g h. sym (taken_there us fs r g e (grind (arith, counted))) ∙ get_or-map is_used (map_of us fs) g Free true h)

-- no granules: none is taken
pub none_taken : (us fs : List ℕ) (r : ℕ) → r ≡ granules_of (length us) (length fs) → r ≡ 0 → taken_in (map_of us fs) ≡ 0
none_taken us fs r e z = sym (taken_counted us fs r e) ∙ ap (λ k. count_by (λ g. get_or (bits_of us) g false) (range_with_len 0 k)) z

-- what the functions' goals cite
pub ruleset fresh_steps = (cells_fresh, length-replicate)

pub ruleset released_steps = (counted, map_released, releasing_whole)

pub ruleset cell_steps = (cell_past, cell_there, cell_free)

pub ruleset taken_steps = (taken_past, taken_there)

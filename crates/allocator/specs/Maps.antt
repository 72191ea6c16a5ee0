-- The map of an allocator: each granule is free, the first of a run, or one of its rest.
use Rattle.std.specs.Prelude.{◌≡◌, ℕ, zero, suc, ◌+◌, ◌<◌, ◌≤◌, Bool, true, false, cond, List, [], ◌∷◌, length, drop, replicate, Some, None, Option, slice_index_or}
use Rattle.allocator.specs.declared.cell.Cell.{Cell}
use Rattle.allocator.specs.declared.cell.Cell.TheVariants.{Free, First, Rest}

abbrev pub is_free : Cell → Bool
is_free Free = true
is_free First = false
is_free Rest = false

abbrev pub is_first : Cell → Bool
is_first Free = false
is_first First = true
is_first Rest = false

abbrev pub is_rest : Cell → Bool
is_rest Free = false
is_rest First = false
is_rest Rest = true

-- how many granules are not free
unfoldable pub taken_in : List Cell → ℕ
taken_in [] = 0
taken_in (x ∷ xs) = cond (is_free x) (taken_in xs) (suc (taken_in xs))

-- how many rests stand at the front
unfoldable pub rests_in_front : List Cell → ℕ
rests_in_front [] = 0
rests_in_front (x ∷ xs) = cond (is_rest x) (suc (rests_in_front xs)) 0

-- the length of the run that begins at granule b, or 0
unfoldable pub run_length : List Cell → ℕ → ℕ
run_length cs b = cond (is_first (slice_index_or cs b Free)) (suc (rests_in_front (drop (b + 1) cs))) 0

-- a run of n granules: a first and the rests that follow it
abbrev pub run_of : ℕ → List Cell
run_of zero = []
run_of (suc n) = First ∷ replicate n Rest

-- n neighbouring granules from b on lie inside and are free
abbrev pub FreeAt : List Cell → ℕ → ℕ → Type 0
FreeAt cs b n = (b + n ≤ length cs) × ((k : ℕ) → k < n → slice_index_or cs (b + k) Rest ≡ Free)

-- a placement rule: from the map, the mark and n, a base granule and the next mark together, or nothing
abbrev pub Rule : Type 0
Rule = List Cell → ℕ → ℕ → Option (ℕ × ℕ)

-- the placement law: what a rule answers lies inside and is free, and it answers nothing exactly when no n neighbouring granules are free
pub record Lawful (place : Rule) : Type 0 where
  pub answered : (cs : List Cell) (mark n b next : ℕ) → 0 < n → place cs mark n ≡ Some (b, next) → FreeAt cs b n
  pub nothing : (cs : List Cell) (mark n : ℕ) → 0 < n → place cs mark n ≡ None → (b : ℕ) → FreeAt cs b n → ⊥
  pub only_then : (cs : List Cell) (mark n : ℕ) → 0 < n → ((b : ℕ) → FreeAt cs b n → ⊥) → place cs mark n ≡ None

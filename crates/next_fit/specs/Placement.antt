-- Next fit, over the list that says of each granule whether it is taken; past the end counts as taken.
use Rattle.std.specs.Prelude.{ℕ, zero, suc, ◌+◌, ◌-◌, Bool, true, cond, not, ◌&&◌, List, map, length, Some, None, Option, slice_index_or}
use Rattle.allocator.specs.declared.cell.Cell.{Cell}
use Rattle.allocator.specs.Maps.{is_free, Rule}

-- whether the n granules from b on are free
abbrev pub all_free : List Bool → ℕ → ℕ → Bool
all_free us b zero = true
all_free us b (suc n) = not (slice_index_or us (b + n) true) && all_free us b n

-- the lowest of k candidates from b on that has n free granules in a row
abbrev pub lowest_fit : List Bool → ℕ → ℕ → ℕ → Option ℕ
lowest_fit us n b zero = None
lowest_fit us n b (suc k) = cond (all_free us b n) (Some b) (lowest_fit us n (b + 1) k)

-- a base that was found with the next mark, base + n; else what another search answers
abbrev pub base_and_mark : ℕ → Option ℕ → Option (ℕ × ℕ) → Option (ℕ × ℕ)
base_and_mark n None other = other
base_and_mark n (Some b) other = Some (b, b + n)

-- the lowest from the mark on, else the lowest from 0 on, else nothing
abbrev pub place_of : List Bool → ℕ → ℕ → Option (ℕ × ℕ)
place_of us mark n =
    base_and_mark n (lowest_fit us n mark (length us - mark)) (base_and_mark n (lowest_fit us n 0 (length us)) None)

-- whether a granule is taken
abbrev pub is_used : Cell → Bool
is_used c = not (is_free c)

-- the placement rule of next fit
abbrev pub next_fit : Rule
next_fit cs mark n = place_of (map is_used cs) mark n

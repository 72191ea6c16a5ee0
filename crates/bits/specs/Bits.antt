-- Bytes as a list of bits: bit g % 8 of byte g / 8, the lowest first, is the bit at place g.
use Rattle.std.specs.Prelude.{◌≡◌, ℕ, ◌-◌, ◌*◌, ◌/◌, ◌%◌, ◌^◌, ◌<◌, Bool, cond, List, map, length, replicate, ◌==◌, nat_le, slice_index}
use Rattle.std.proofs.lemmas.List.FromFn.{length-map-range_with_len}
use Rattle.std.specs.List.{range_with_len}
use Rattle.std.proofs.Math.Seq.{paste}

-- bit k of a byte
abbrev pub bit : ℕ → ℕ → Bool
bit b k = b / 2 ^ k % 2 == 1

-- the bit at place g
abbrev pub bit_at : List ℕ → ℕ → Bool
bit_at bs g = bit (slice_index bs (g / 8)) (g % 8)

-- all bits, in order
unfoldable pub bits_of : List ℕ → List Bool
bits_of bs = map (bit_at bs) (range_with_len 0 (8 * length bs))

-- the places from one up to an end set to v; nothing where the end lies past the last
abbrev pub filled : {X : Type 0} → List X → ℕ → ℕ → X → List X
filled xs from end v = cond (nat_le end (length xs)) (paste xs from (replicate (end - from) v) (end - from)) xs

-- w is b with bit k set to v
abbrev pub BitPut : ℕ → ℕ → ℕ → Bool → Type 0
BitPut b w k v = (j : ℕ) → j < 8 → bit w j ≡ cond (j == k) v (bit b j)

pub length_bits : (bs : List ℕ) → length (bits_of bs) ≡ 8 * length bs
unfolding bits_of
length_bits bs = length-map-range_with_len (bit_at bs) 0 (8 * length bs)

-- Flat memory: two lent buffers, one of data bytes and one of tag bits.
use Rattle.std.specs.Prelude.{◌≡◌, ℕ, ◌*◌, ◌/◌, ◌%◌, ◌<◌, ◌≤◌, Bool, true, false, cond, ◌&&◌, List, [], length, Ok, Err, Result, ◌==◌, nat_le, slice_index_or, refl}
use Rattle.std.proofs.Common.{arith}
use Rattle.std.proofs.lemmas.Bool.{and_parts, both_ways, eqb-true, leb-true}
use Rattle.bits.specs.Bits.{bits_of, length_bits}
use Rattle.memory.specs.declared.fault.MemoryFault.{MemoryFault}
use Rattle.memory.specs.declared.fault.MemoryFault.TheVariants.{Sizes}
use Rattle.memory.specs.Memories.{granule_bytes, most_granules}

-- g granules have 16·g bytes of data and g/8 bytes of tags; g is a multiple of 16 from 16 to 1,024
abbrev pub sizes_of : ℕ → ℕ → ℕ → Bool
sizes_of g data_size tags_size =
    (data_size == granule_bytes * g) && (tags_size == g / 8 && (g % 16 == 0 && (nat_le 16 g && nat_le g most_granules)))

-- the sizes of two buffers fit some number of granules
abbrev pub sizes_fit : ℕ → ℕ → Bool
sizes_fit data_size tags_size = sizes_of (data_size / granule_bytes) data_size tags_size

-- the number of granules over two buffers, or the denial
abbrev pub sizes_checked : ℕ → ℕ → Result ℕ MemoryFault
sizes_checked data_size tags_size = cond (sizes_fit data_size tags_size) (Ok (data_size / granule_bytes)) (Err Sizes)

-- the number of granules over two buffers: none if the sizes do not fit
abbrev pub flat_granules : ℕ → ℕ → ℕ
flat_granules data_size tags_size = cond (sizes_fit data_size tags_size) (data_size / granule_bytes) 0

-- the bytes of a flat memory: none if the sizes do not fit
abbrev pub flat_bytes : List ℕ → List ℕ → List ℕ
flat_bytes bs ts = cond (sizes_fit (length bs) (length ts)) bs []

-- the tags of a flat memory: none if the sizes do not fit
abbrev pub flat_tags : List ℕ → List ℕ → List Bool
flat_tags bs ts = cond (sizes_fit (length bs) (length ts)) (bits_of ts) []

-- any granule may hold a capability
abbrev pub always_may : List Bool → ℕ → Bool
always_may ts g = true

-- what the number of granules says of the two buffers
pub record GranulesOf (bs ts : List ℕ) (n : ℕ) : Type 0 where
  pub count : n ≡ length (flat_tags bs ts)
  pub room : length (flat_bytes bs ts) ≡ granule_bytes * n
  pub few : n ≤ most_granules
  pub fit : 0 < n → sizes_fit (length bs) (length ts) ≡ true
  pub data_size : 0 < n → length bs ≡ granule_bytes * n
  pub tags_size : 0 < n → 8 * length ts ≡ n

-- what fitting sizes say
pub record FitsFor (g data_size tags_size : ℕ) : Type 0 where
  pub whole : data_size ≡ granule_bytes * g
  pub bits : 8 * tags_size ≡ g
  pub few : g ≤ most_granules

pub fits_for : (g data_size tags_size : ℕ) → sizes_of g data_size tags_size ≡ true → FitsFor g data_size tags_size
fits_for g n m e =
    let p = and_parts (n == granule_bytes * g) _ e in
    let q = and_parts (m == g / 8) _ p.1 in
    let r = and_parts (g % 16 == 0) _ q.1 in
    let s = and_parts (nat_le 16 g) (nat_le g most_granules) r.1 in
    let tags_are = eqb-true m (g / 8) q.0 in
    let whole = eqb-true (g % 16) 0 r.0 in
    record {
      whole = eqb-true n (granule_bytes * g) p.0;
      bits = omega arith;
      few = leb-true g most_granules s.1;
    }

sized_if : (t : Bool) (bs ts : List ℕ) → (t ≡ true → FitsFor (length bs / granule_bytes) (length bs) (length ts)) → length (cond t bs []) ≡ 16 * length (cond t (bits_of ts) [])
sized_if true bs ts h =
    let f = h refl in
    omega (arith, length_bits ts, f.whole, f.bits)
sized_if false bs ts h = refl

bounded_if : (t : Bool) (bs ts : List ℕ) → (t ≡ true → FitsFor (length bs / granule_bytes) (length bs) (length ts)) → length (cond t (bits_of ts) []) ≤ most_granules
bounded_if true bs ts h =
    let f = h refl in
    omega (arith, length_bits ts, f.few, f.bits)
bounded_if false bs ts h = omega arith

-- every granule has 16 bytes
pub flat_sized : (bs ts : List ℕ) → length (flat_bytes bs ts) ≡ 16 * length (flat_tags bs ts)
flat_sized bs ts = sized_if (sizes_fit (length bs) (length ts)) bs ts (fits_for (length bs / granule_bytes) (length bs) (length ts))

-- there are at most 1,024 granules
pub flat_bounded : (bs ts : List ℕ) → length (flat_tags bs ts) ≤ most_granules
flat_bounded bs ts = bounded_if (sizes_fit (length bs) (length ts)) bs ts (fits_for (length bs / granule_bytes) (length bs) (length ts))

-- flat memory never says no
pub always_sure : (ts : List Bool) (g : ℕ) → always_may ts g ≡ false → slice_index_or ts g false ≡ false
always_sure ts g e = absurd (both_ways true e refl)

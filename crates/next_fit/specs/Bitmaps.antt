-- The map of a bitmap allocator, from its two bit buffers.
use Rattle.std.specs.Prelude.{ℕ, ◌*◌, ◌%◌, Bool, true, false, cond, ◌&&◌, List, [], map, length, replicate, Ok, Err, Result, ◌==◌, nat_le, slice_index_or}
use Rattle.std.specs.List.{range_with_len}
use Rattle.bits.specs.Bits.{bits_of}
use Rattle.allocator.specs.declared.fault.AllocatorFault.{AllocatorFault}
use Rattle.allocator.specs.declared.fault.AllocatorFault.TheVariants.{Sizes}
use Rattle.allocator.specs.declared.cell.Cell.{Cell}
use Rattle.allocator.specs.declared.cell.Cell.TheVariants.{Free, First, Rest}

-- a granule by its two bits: whether it is used, and whether it is the first of a run
abbrev pub cell_of : Bool → Bool → Cell
cell_of true true = First
cell_of true false = Rest
cell_of false true = Free
cell_of false false = Free

-- the map, granule by granule
unfoldable pub cells_of : List Bool → List Bool → List Cell
cells_of us fs = map (λ g. cell_of (slice_index_or us g false) (slice_index_or fs g false)) (range_with_len 0 (length us))

-- whether two buffers of so many bytes fit: alike, an even number from 2 to 128 (a multiple of 16 granules from 16 to 1,024)
abbrev pub sizes_fit : ℕ → ℕ → Bool
sizes_fit nu nf = nu == nf && (nu % 2 == 0 && (nat_le 2 nu && nat_le nu 128))

-- the number of granules, or the fault
abbrev pub sizes_answer : ℕ → ℕ → Result ℕ AllocatorFault
sizes_answer nu nf = cond (sizes_fit nu nf) (Ok (8 * nu)) (Err Sizes)

-- the map of two buffers: no granules where their sizes do not fit
abbrev pub map_of : List ℕ → List ℕ → List Cell
map_of us fs = cond (sizes_fit (length us) (length fs)) (cells_of (bits_of us) (bits_of fs)) []

-- the bytes of a buffer, zeroed if it fits
abbrev pub zeroed_if : Bool → List ℕ → List ℕ
zeroed_if fit bs = cond fit (replicate (length bs) 0) bs

-- the map at construction: all granules free, and none where the sizes do not fit
abbrev pub fresh_map : ℕ → ℕ → List Cell
fresh_map nu nf = cond (sizes_fit nu nf) (replicate (8 * nu) Free) []

-- the number of granules of buffers of so many bytes: none where their sizes do not fit
abbrev pub granules_of : ℕ → ℕ → ℕ
granules_of nu nf = cond (sizes_fit nu nf) (8 * nu) 0

-- What a tagged memory answers, and what it holds afterwards, by its bytes and its tags.
use Rattle.std.specs.Prelude.{ℕ, ◌+◌, ◌*◌, Bool, false, cond, ◌&&◌, List, length, Some, None, Ok, Err, Option, Result, nat_le, nat_lt, slice_index, slice_index_or}
use Rattle.std.proofs.Math.Seq.{paste}
use Rattle.authority.specs.Capabilities.{capability_of, top_of}
use Rattle.authority.specs.Images.{image_of, word_at}
use Rattle.authority.specs.declared.capability.Capability.{Capability}
use Rattle.memory.specs.declared.fault.MemoryFault.{MemoryFault}
use Rattle.memory.specs.declared.fault.MemoryFault.TheVariants.{Bounds, BadNum}
use Rattle.memory.specs.declared.granule.Granule.{Granule}

-- the bytes of a granule
abbrev pub granule_bytes : ℕ
granule_bytes = 16

-- the most granules of a memory
abbrev pub most_granules : ℕ
most_granules = 1024

-- the byte at an address
abbrev pub byte_read : List ℕ → ℕ → Result ℕ MemoryFault
byte_read bs at = cond (nat_lt at (length bs)) (Ok (slice_index bs at)) (Err Bounds)

-- a granule's tag, and the numbers at the image's places
abbrev pub granule_at : List ℕ → List Bool → ℕ → Granule
granule_at bs ts g = record {
  tagged = slice_index_or ts g false;
  numbers = record { base = word_at bs (16 * g); top = word_at bs (16 * g + 4); permissions = slice_index bs (16 * g + 8) };
}

abbrev pub granule_read : List ℕ → List Bool → ℕ → Result Granule MemoryFault
granule_read bs ts g = cond (nat_lt g (length ts)) (Ok (granule_at bs ts g)) (Err Bounds)

-- the answer of a change at place i of n
abbrev pub change_at : ℕ → ℕ → Result Unit MemoryFault
change_at i n = cond (nat_lt i n) (Ok tt) (Err Bounds)

-- the capability of three numbers in a memory of n bytes: none if it reaches past the last byte
abbrev pub reaching : ℕ → Option Capability → Option Capability
reaching n None = None
reaching n (Some c) = cond (nat_le (top_of c) n) (Some c) None

-- a capability, if there is one, stored at granule g
abbrev pub stored_answer : Option Capability → Result Unit MemoryFault
stored_answer None = Err BadNum
stored_answer (Some c) = Ok tt

abbrev pub capability_stored : List ℕ → List Bool → ℕ → ℕ → ℕ → ℕ → Result Unit MemoryFault
capability_stored bs ts g from to n = cond (nat_lt g (length ts)) (stored_answer (reaching (length bs) (capability_of from to n))) (Err Bounds)

-- the bytes with an image at granule g
abbrev pub with_image : List ℕ → ℕ → Option Capability → List ℕ
with_image bs g None = bs
with_image bs g (Some c) = paste bs (16 * g) (image_of c) 16

-- the answer of a wipe of n granules from g on, of all
abbrev pub wipe_answer : ℕ → ℕ → ℕ → Result Unit MemoryFault
wipe_answer g n all = cond (nat_lt g all && nat_le (g + n) all) (Ok tt) (Err Bounds)

-- may-hold at a granule past the last is denied
abbrev pub may_answer : (List Bool → ℕ → Bool) → List Bool → ℕ → Result Bool MemoryFault
may_answer may ts g = cond (nat_lt g (length ts)) (Ok (may ts g)) (Err Bounds)

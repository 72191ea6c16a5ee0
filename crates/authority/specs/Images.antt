-- The image of a capability: 16 bytes.
use Rattle.std.specs.Prelude.{◌≡◌, ℕ, ◌+◌, ◌*◌, ◌/◌, ◌%◌, List, [], ◌∷◌, ◌++◌, replicate, Some, Option, slice_index}
use Rattle.authority.specs.Capabilities.{base_of, top_of, permissions_of, capability_of}
use Rattle.authority.specs.declared.capability.Capability.{Capability}

-- a number in four bytes, low byte first
abbrev pub word : ℕ → List ℕ
word n = n % 256 ∷ (n / 256 % 256 ∷ (n / 65536 % 256 ∷ (n / 16777216 % 256 ∷ [])))

-- the number in the four bytes from a place on
abbrev pub word_at : List ℕ → ℕ → ℕ
word_at bs i = slice_index bs i + 256 * slice_index bs (i + 1) + 65536 * slice_index bs (i + 2) + 16777216 * slice_index bs (i + 3)

-- base in four bytes, top in four bytes, the permission number in one byte, seven zero bytes
abbrev pub image_of : Capability → List ℕ
image_of c = word (base_of c) ++ (word (top_of c) ++ (permissions_of c ∷ replicate 7 0))

-- the capability of the numbers at the image's places
abbrev pub read_image : List ℕ → Option Capability
read_image bs = capability_of (word_at bs 0) (word_at bs 4) (slice_index bs 8)

-- reading the image of a capability gives it back
abbrev pub ImageReadsBack : Type 0
ImageReadsBack = (c : Capability) → read_image (image_of c) ≡ Some c

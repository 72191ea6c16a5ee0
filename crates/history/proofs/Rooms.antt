-- Room for a new run, and the bytes of its granules.
use Rattle.std.proofs.Common.{◌≡◌, ℕ, ◌+◌, ◌-◌, ◌*◌, ◌/◌, ◌<◌, ◌≤◌, true, ◌&&◌, ltb, leb, List, length, get_or, arith}
use Rattle.std.proofs.lemmas.List.{get_or_default}
use Rattle.std.proofs.lemmas.Bool.Decides.{nat_tests}
use Rattle.allocator.specs.declared.cell.Cell.{Cell}
use Rattle.allocator.specs.declared.cell.Cell.TheVariants.{Free, Rest}
use Rattle.allocator.specs.Maps.{FreeAt}

-- room for a run of n granules at b

abbrev pub Room : List Cell → ℕ → ℕ → Type 0
Room cs b n = (b + n ≤ length cs) × ((g : ℕ) → b ≤ g → g < b + n → get_or cs g Free ≡ Free)

pub room_of : (cs : List Cell) (b n : ℕ) → FreeAt cs b n → Room cs b n
room_of cs b n f = (
  f.0,
  λ g lo hi.
      let z : b + (g - b) ≡ g = omega arith in
      cc (f.1 (g - b) (omega arith), get_or_default cs g Free Rest (omega (arith, f.0))),
)

-- the bytes of a new run

pub span_in : (lo hi a n j : ℕ) → lo ≡ 16 * a → hi ≡ 16 * a + 16 * n → (leb lo j && ltb j hi) ≡ true → (a ≤ j / 16) × (j / 16 < a + n)
span_in lo hi a n j p q e = grind (arith, nat_tests)

pub span_same : (lo hi a n i j : ℕ) → lo ≡ 16 * a → hi ≡ 16 * a + 16 * n → i / 16 ≡ j / 16 → (leb lo i && ltb i hi) ≡ (leb lo j && ltb j hi)
span_same lo hi a n i j p q e = grind (arith, nat_tests)

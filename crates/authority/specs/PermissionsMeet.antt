-- The meet of permissions.
use Rattle.std.specs.Prelude.{◌≡◌, ℕ, ◌≤◌, Bool, true, false, Some, None, Option, bit_and, nat_le, refl}
use mathlib.Core.HLevel.{is_prop→PathP}
use Rattle.std.proofs.Math.Bridge.{le_prop}
use Rattle.std.proofs.Common.{arith}
use Rattle.std.proofs.lemmas.Nat.{and_le_l}
use Rattle.std.proofs.lemmas.Bool.{leb-true}
use Rattle.authority.specs.Masks.{all_permissions}
use Rattle.authority.specs.declared.permissions.Permissions.{Permissions}

pub both_known : (a b : ℕ) → a ≤ all_permissions → bit_and a b ≤ all_permissions
both_known a b h = omega (arith, and_le_l a b)

-- the bits of both
unfoldable pub meet_permissions : Permissions → Permissions → Permissions
meet_permissions x y = record { bits = bit_and x.bits y.bits; known = both_known x.bits y.bits x.known }

-- permissions are equal where their bits are
pub same_permissions : (x y : Permissions) → x.bits ≡ y.bits → x ≡ y
same_permissions x y p = λ i. record { bits = p i; known = is_prop→PathP (λ j. p j ≤ all_permissions) (λ j. le_prop) x.known y.known i }

-- the bits of a meet
pub meet_bits : (x y : Permissions) → (meet_permissions x y).bits ≡ bit_and x.bits y.bits
unfolding meet_permissions
meet_bits x y = refl

abbrev pub permissions_if : (n : ℕ) (t : Bool) → nat_le n all_permissions ≡ t → Option Permissions
permissions_if n true e = Some (record { bits = n; known = leb-true n all_permissions e })
permissions_if n false e = None

-- the permissions of a number: none if it is above all permissions
unfoldable pub permissions_from : ℕ → Option Permissions
permissions_from n = permissions_if n (nat_le n all_permissions) refl

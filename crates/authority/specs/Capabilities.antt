-- Capabilities: base, top and permission number, and how one is made.
use Rattle.std.specs.Prelude.{◌≡◌, ℕ, ◌<◌, ◌≤◌, Bool, true, false, Some, None, Option, nat_le, nat_lt, refl}
use mathlib.Core.HLevel.{is_prop→PathP}
use Rattle.std.proofs.Math.Bridge.{le_prop}
use Rattle.std.proofs.lemmas.Bool.{and_parts, leb-true, ltb-true}
use Rattle.authority.specs.Spans.{is_within, most_bytes}
use Rattle.authority.specs.BoundsMeet.{meet_bounds, bounds_between}
use Rattle.authority.specs.PermissionsMeet.{meet_permissions, permissions_from}
use Rattle.authority.specs.declared.bounds.Bounds.{Bounds}
use Rattle.authority.specs.declared.permissions.Permissions.{Permissions}
use Rattle.authority.specs.declared.meet.Pair.{Pair}
use Rattle.authority.specs.declared.capability.Capability.{Capability}
use Rattle.authority.specs.declared.numbers.Numbers.{Numbers}

-- the authority of a capability: bounds and permissions side by side
abbrev pub Authority : Type 0
Authority = Pair Bounds Permissions

abbrev pub base_of : Capability → ℕ
base_of c = c.authority.first.base

abbrev pub top_of : Capability → ℕ
top_of c = c.authority.first.top

abbrev pub permissions_of : Capability → ℕ
permissions_of c = c.authority.second.bits

-- the three numbers of a capability
abbrev pub numbers_of : Capability → Numbers
numbers_of c = record { base = base_of c; top = top_of c; permissions = permissions_of c }

-- the meet of two authorities, part by part
abbrev pub meet_authority : Authority → Authority → Authority
meet_authority x y = record { first = meet_bounds x.first y.first; second = meet_permissions x.second y.second }

abbrev pub capability_if : (a : Authority) (t : Bool) → is_within a.first.base a.first.top ≡ t → Option Capability
capability_if a true e =
    let both = and_parts (nat_lt a.first.base a.first.top) (nat_le a.first.top most_bytes) e in
    Some (record { authority = a; nonempty = ltb-true a.first.base a.first.top both.0; reach = leb-true a.first.top most_bytes both.1 })
capability_if a false e = None

-- the capability over an authority: none if its bounds are empty, or reach past the largest memory
unfoldable pub capability_over : Authority → Option Capability
capability_over a = capability_if a (is_within a.first.base a.first.top) refl

-- the capability over bounds and, if there are such, permissions
abbrev pub capability_with : Bounds → Option Permissions → Option Capability
capability_with b None = None
capability_with b (Some p) = capability_over (record { first = b; second = p })

-- the capability of three numbers: none unless base < top, top is an address of the largest memory, and the third is a permission number
abbrev pub capability_of : ℕ → ℕ → ℕ → Option Capability
capability_of from to n = capability_with (bounds_between from to) (permissions_from n)

-- capabilities are equal where their authorities are
pub same_capability : (x y : Capability) → x.authority ≡ y.authority → x ≡ y
same_capability x y p = λ i. record {
  authority = p i;
  nonempty = is_prop→PathP (λ j. (p j).first.base < (p j).first.top) (λ j. le_prop) x.nonempty y.nonempty i;
  reach = is_prop→PathP (λ j. (p j).first.top ≤ most_bytes) (λ j. le_prop) x.reach y.reach i;
}

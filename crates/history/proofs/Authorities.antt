-- The laws of the meet of authorities, and what a capability made of them is.
use Rattle.std.proofs.Common.{◌≡◌, ℕ, ◌<◌, ◌≤◌, Bool, true, false, Some, None, Option, refl, ap, ◌∙◌, inl, inr, arith}
use Rattle.authority.proofs.Making.{permissions_none, permissions_back}
use Rattle.std.proofs.lemmas.Bool.{cases_lt}
use Rattle.std.proofs.lemmas.Bool.Decides.{nat_tests}
use Rattle.authority.specs.Spans.{is_within, shared_base, shared_top}
use Rattle.authority.specs.BoundsMeet.{bounds_between, meet_bounds}
use Rattle.authority.specs.PermissionsMeet.{permissions_from}
use Rattle.authority.specs.Masks.{all_permissions}
use Rattle.authority.specs.Capabilities.{Authority, base_of, top_of, permissions_of, capability_if, capability_of, capability_over, capability_with, meet_authority}
use Rattle.authority.specs.declared.bounds.Bounds.{Bounds}
use Rattle.authority.specs.declared.capability.Capability.{Capability}
use Rattle.authority.specs.declared.permissions.Permissions.{Permissions}
use Rattle.authority.specs.Meets.{bounds_assoc, bounds_comm, bounds_self, permissions_assoc, permissions_comm, permissions_self}

pub meet_assoc : (x y z : Authority) → meet_authority (meet_authority x y) z ≡ meet_authority x (meet_authority y z)
meet_assoc x y z = λ i. record { first = bounds_assoc x.first y.first z.first i; second = permissions_assoc x.second y.second z.second i }

pub meet_comm : (x y : Authority) → meet_authority x y ≡ meet_authority y x
meet_comm x y = λ i. record { first = bounds_comm x.first y.first i; second = permissions_comm x.second y.second i }

pub meet_self : (x : Authority) → meet_authority x x ≡ x
meet_self x = λ i. record { first = bounds_self x.first i; second = permissions_self x.second i }

-- what a meet is of lies within what its parts lie within
pub meet_below : (x y z : Authority) → meet_authority x z ≡ x → meet_authority (meet_authority x y) z ≡ meet_authority x y
meet_below x y z h = cc (meet_comm x y, meet_assoc y x z)

-- a meet that gives its first part has that part's bounds inside
pub shared_inside : (a b c d : ℕ) → a < b → shared_base a b c d ≡ a → shared_top a b c d ≡ b → (c ≤ a) × (b ≤ d)
shared_inside a b c d h p q = grind (arith, nat_tests)

pub meet_inside : (x y : Bounds) → x.base < x.top → meet_bounds x y ≡ x → (y.base ≤ x.base) × (x.top ≤ y.top)
unfolding meet_bounds
meet_inside x y h e = shared_inside x.base x.top y.base y.top h (ap (λ (z : Bounds). z.base) e) (ap (λ (z : Bounds). z.top) e)

-- the authority of a capability over one is that one
pub over_authority : (x : Authority) (c : Capability) → capability_over x ≡ Some c → c.authority ≡ x
unfolding capability_over
over_authority x c h = go (is_within x.first.base x.first.top) refl h
  where
    go : (t : Bool) (e : is_within x.first.base x.first.top ≡ t) → capability_if x t e ≡ Some c → c.authority ≡ x
    go true e h = cc
    go false e h = cc

permissions_bits : (n : ℕ) (p : Permissions) → permissions_from n ≡ Some p → p.bits ≡ n
permissions_bits n p h = elim (cases_lt all_permissions n) [ inl l ↦ cc (permissions_none n l) | inr l ↦ cc (permissions_back (record { bits = n; known = l })) ]

between_numbers : (x y : ℕ) → (bounds_between x y).base < (bounds_between x y).top → ((bounds_between x y).base ≡ x) × ((bounds_between x y).top ≡ y)
unfolding bounds_between
between_numbers x y h = grind (arith, nat_tests)

-- three numbers that make a capability are its own
pub made_numbers : (x y z : ℕ) (c : Capability) → capability_of x y z ≡ Some c → (base_of c ≡ x) × (top_of c ≡ y) × (permissions_of c ≡ z)
made_numbers x y z c e = go (permissions_from z) refl e
  where
    go : (o : Option Permissions) → permissions_from z ≡ o → capability_with (bounds_between x y) o ≡ Some c → (base_of c ≡ x) × (top_of c ≡ y) × (permissions_of c ≡ z)
    go None q e = cc
    go (Some p) q e =
        let a = over_authority (record { first = bounds_between x y; second = p }) c e in
        let f : base_of c ≡ (bounds_between x y).base = ap (λ (w : Authority). w.first.base) a in
        let t : top_of c ≡ (bounds_between x y).top = ap (λ (w : Authority). w.first.top) a in
        let r : permissions_of c ≡ p.bits = ap (λ (w : Authority). w.second.bits) a in
        let n = c.nonempty in
        let m = between_numbers x y (omega arith) in
        (f ∙ m.0, t ∙ m.1, r ∙ permissions_bits z p q)

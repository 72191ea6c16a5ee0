-- The laws of the meets of bounds and of permissions.
use Rattle.std.specs.Prelude.{◌≡◌, ℕ, ◌+◌, ◌*◌, ◌/◌, ◌%◌, min, true, bit_and, refl}
use Rattle.std.proofs.Common.{sym, ◌∙◌, ap₂, arith}
use Rattle.std.proofs.Math.Arith.{bin_ind}
use Rattle.std.proofs.lemmas.Bool.Decides.{nat_tests}
use Rattle.std.proofs.lemmas.Nat.{and_comm}
use Rattle.std.specs.Int.Bits.{and_self, and_step}
use Rattle.authority.specs.Spans.{is_span, shared_base, shared_top}
use Rattle.authority.specs.BoundsMeet.{meet_bounds, same_bounds}
use Rattle.authority.specs.PermissionsMeet.{meet_permissions, same_permissions}
use Rattle.authority.specs.declared.bounds.Bounds.{Bounds}
use Rattle.authority.specs.declared.permissions.Permissions.{Permissions}

min_assoc : (x y z : ℕ) → min (min x y) z ≡ min x (min y z)
min_assoc x y z = omega arith

halves_assoc : (n b c : ℕ) → bit_and (bit_and (n / 2) (b / 2)) (c / 2) ≡ bit_and (n / 2) (bit_and (b / 2) (c / 2)) → bit_and (bit_and n b) c ≡ bit_and n (bit_and b c)
halves_assoc n b c ih =
    let e = and_step n b in
    let f = and_step b c in
    let eh : bit_and n b / 2 ≡ bit_and (n / 2) (b / 2) = omega arith in
    let el : bit_and n b % 2 ≡ min (n % 2) (b % 2) = omega arith in
    let fh : bit_and b c / 2 ≡ bit_and (b / 2) (c / 2) = omega arith in
    let fl : bit_and b c % 2 ≡ min (b % 2) (c % 2) = omega arith in
    let l : bit_and (bit_and n b) c ≡ bit_and (bit_and (n / 2) (b / 2)) (c / 2) * 2 + min (min (n % 2) (b % 2)) (c % 2)
    = and_step (bit_and n b) c ∙ ap₂ (λ x y. bit_and x (c / 2) * 2 + min y (c % 2)) eh el in
    let r : bit_and n (bit_and b c) ≡ bit_and (n / 2) (bit_and (b / 2) (c / 2)) * 2 + min (n % 2) (min (b % 2) (c % 2))
    = and_step n (bit_and b c) ∙ ap₂ (λ x y. bit_and (n / 2) x * 2 + min (n % 2) y) fh fl in
    l ∙ (ap₂ (λ x y. x * 2 + y) ih (min_assoc (n % 2) (b % 2) (c % 2)) ∙ sym r)

-- the bits of three numbers, in either order
pub and_assoc : (a b c : ℕ) → bit_and (bit_and a b) c ≡ bit_and a (bit_and b c)
and_assoc a =
    bin_ind (λ (n : ℕ). (b c : ℕ) → bit_and (bit_and n b) c ≡ bit_and n (bit_and b c)) (λ b c. refl)
    (λ n ih b c. halves_assoc n b c (ih (b / 2) (c / 2))) a

pub base_assoc : (a b c d e f : ℕ) → shared_base (shared_base a b c d) (shared_top a b c d) e f ≡ shared_base a b (shared_base c d e f) (shared_top c d e f)
base_assoc a b c d e f = grind (arith, nat_tests)

pub top_assoc : (a b c d e f : ℕ) → shared_top (shared_base a b c d) (shared_top a b c d) e f ≡ shared_top a b (shared_base c d e f) (shared_top c d e f)
top_assoc a b c d e f = grind (arith, nat_tests)

pub base_comm : (a b c d : ℕ) → shared_base a b c d ≡ shared_base c d a b
base_comm a b c d = grind (arith, nat_tests)

pub top_comm : (a b c d : ℕ) → shared_top a b c d ≡ shared_top c d a b
top_comm a b c d = grind (arith, nat_tests)

pub base_self : (a b : ℕ) → is_span a b ≡ true → shared_base a b a b ≡ a
base_self a b h = grind (arith, nat_tests)

pub top_self : (a b : ℕ) → is_span a b ≡ true → shared_top a b a b ≡ b
top_self a b h = grind (arith, nat_tests)

-- the laws of the meet of bounds
pub bounds_assoc : (x y z : Bounds) → meet_bounds (meet_bounds x y) z ≡ meet_bounds x (meet_bounds y z)
unfolding meet_bounds
bounds_assoc x y z = same_bounds _ _ (base_assoc x.base x.top y.base y.top z.base z.top) (top_assoc x.base x.top y.base y.top z.base z.top)

pub bounds_comm : (x y : Bounds) → meet_bounds x y ≡ meet_bounds y x
unfolding meet_bounds
bounds_comm x y = same_bounds _ _ (base_comm x.base x.top y.base y.top) (top_comm x.base x.top y.base y.top)

pub bounds_self : (x : Bounds) → meet_bounds x x ≡ x
unfolding meet_bounds
bounds_self x = same_bounds _ _ (base_self x.base x.top x.span) (top_self x.base x.top x.span)

-- the laws of the meet of permissions
pub permissions_assoc : (x y z : Permissions) → meet_permissions (meet_permissions x y) z ≡ meet_permissions x (meet_permissions y z)
unfolding meet_permissions
permissions_assoc x y z = same_permissions _ _ (and_assoc x.bits y.bits z.bits)

pub permissions_comm : (x y : Permissions) → meet_permissions x y ≡ meet_permissions y x
unfolding meet_permissions
permissions_comm x y = same_permissions _ _ (and_comm x.bits y.bits)

pub permissions_self : (x : Permissions) → meet_permissions x x ≡ x
unfolding meet_permissions
permissions_self x = same_permissions _ _ (and_self x.bits)

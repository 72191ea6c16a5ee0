-- Capabilities, and permissions of a number, by what they hold.
use Rattle.std.proofs.Common.{◌≡◌, ℕ, ◌+◌, ◌*◌, ◌/◌, ◌%◌, ◌<◌, ◌≤◌, Bool, true, false, ltb, leb, Some, None, Option, sym, refl, ap, ◌∙◌, subst, ap₂, arith, MatchOption}
use Rattle.std.proofs.lemmas.Bool.Decides.{nat_tests}
use Rattle.std.proofs.lemmas.Bool.{leb-true, lt-ltb, le-leb, both_ways, cond-true, and_from}
use Rattle.authority.specs.Spans.{is_within, most_bytes}
use Rattle.authority.specs.Masks.{all_permissions}
use Rattle.authority.specs.BoundsMeet.{bounds_between, same_bounds}
use Rattle.authority.specs.PermissionsMeet.{permissions_from, permissions_if, same_permissions}
use Rattle.authority.specs.Capabilities.{Authority, base_of, top_of, permissions_of, capability_over, capability_if, capability_of, capability_with, same_capability}
use Rattle.authority.specs.Images.{word, word_at, image_of, ImageReadsBack}
use Rattle.authority.specs.declared.bounds.Bounds.{Bounds}
use Rattle.authority.specs.declared.permissions.Permissions.{Permissions}
use Rattle.authority.specs.declared.capability.Capability.{Capability}

-- the permissions of a number, from what is known of them
pub permissions_is : (n : ℕ) (r : Option Permissions) → MatchOption r (n ≤ all_permissions → ⊥) (λ p. p.bits ≡ n) → r ≡ permissions_from n
unfolding permissions_from
permissions_is n r h = go (leb n all_permissions) refl r h
  where
    go : (t : Bool) (e : leb n all_permissions ≡ t) (r : Option Permissions) → MatchOption r (n ≤ all_permissions → ⊥) (λ p. p.bits ≡ n) → r ≡ permissions_if n t e
    go true e None h = absurd (h (leb-true n all_permissions e))
    go true e (Some p) h = ap Some (same_permissions p _ h)
    go false e None h = refl
    go false e (Some p) h = absurd (both_ways (leb n all_permissions) e (le-leb n all_permissions (subst (λ (k : ℕ). k ≤ all_permissions) h p.known)))

within_is : (x y : ℕ) → x < y → y ≤ most_bytes → is_within x y ≡ true
within_is x y h l = and_from (ltb x y) (leb y most_bytes) (lt-ltb x y h) (le-leb y most_bytes l)

-- the capability over an authority, from what is known of it
pub capability_is : (a : Authority) (r : Option Capability) → MatchOption r (is_within a.first.base a.first.top ≡ false) (λ c. c.authority ≡ a) → r ≡ capability_over a
unfolding capability_over
capability_is a r h = go (is_within a.first.base a.first.top) refl r h
  where
    go : (t : Bool) (e : is_within a.first.base a.first.top ≡ t) (r : Option Capability) → MatchOption r (is_within a.first.base a.first.top ≡ false) (λ c. c.authority ≡ a) → r ≡ capability_if a t e
    go true e None h = absurd (both_ways (is_within a.first.base a.first.top) h e)
    go true e (Some c) h = ap Some (same_capability c _ h)
    go false e None h = refl
    go false e (Some c) h = absurd (both_ways (is_within a.first.base a.first.top) e (subst (λ (x : Authority). is_within x.first.base x.first.top ≡ true) h (within_is _ _ c.nonempty c.reach)))

-- permissions are those of their number, and a number above all permissions has none
pub permissions_back : (p : Permissions) → Some p ≡ permissions_from p.bits
permissions_back p = permissions_is p.bits (Some p) refl

pub permissions_none : (n : ℕ) → all_permissions < n → permissions_from n ≡ None
permissions_none n h = sym (permissions_is n None (λ l. omega arith))

-- a capability is the one over its authority, and empty bounds or bounds that reach too far have none
pub capability_back : (c : Capability) → Some c ≡ capability_over c.authority
capability_back c = capability_is c.authority (Some c) refl

pub capability_empty : (a : Authority) → a.first.top ≡ 0 → capability_over a ≡ None
capability_empty a h = sym (capability_is a None (grind (arith, nat_tests)))

pub capability_past : (a : Authority) → most_bytes < a.first.top → capability_over a ≡ None
capability_past a h = sym (capability_is a None (grind (arith, nat_tests)))

-- the four bytes of a number give it back
word_back : (n : ℕ) → n < 4294967296 → word_at (word n) 0 ≡ n
word_back n h =
    let b : n / 65536 ≡ n / 256 / 256 = omega arith in
    let c : n / 16777216 ≡ n / 65536 / 256 = omega arith in
    let l : n / 16777216 < 256 = omega arith in
    let p : n ≡ n % 256 + 256 * (n / 256) = omega arith in
    let q : n / 256 ≡ n / 256 % 256 + 256 * (n / 65536) = omega arith in
    let r : n / 65536 ≡ n / 65536 % 256 + 256 * (n / 16777216) = omega arith in
    let z : n / 16777216 % 256 ≡ n / 16777216 = omega arith in
    digits n (n / 256) (n / 65536) (n / 16777216) (n % 256) (n / 256 % 256) (n / 65536 % 256) (n / 16777216 % 256) p q r z
  where
    digits : (n x y z d e f g : ℕ) → n ≡ d + 256 * x → x ≡ e + 256 * y → y ≡ f + 256 * z → g ≡ z → d + 256 * e + 65536 * f + 16777216 * g ≡ n
    digits n x y z d e f g p q r s = omega arith

between_back : (x : Bounds) → x.base < x.top → bounds_between x.base x.top ≡ x
unfolding bounds_between
between_back x h =
    let t = lt-ltb x.base x.top h in
    same_bounds _ _ (cond-true _ x.base 0 t) (cond-true _ x.top 0 t)

-- a capability's numbers make it
pub numbers_back : (c : Capability) → capability_of (base_of c) (top_of c) (permissions_of c) ≡ Some c
numbers_back c =
    let a = c.authority in
    let b : bounds_between a.first.base a.first.top ≡ a.first = between_back a.first c.nonempty in
    let p : permissions_from a.second.bits ≡ Some a.second = sym (permissions_back a.second) in
    ap (capability_with (bounds_between a.first.base a.first.top)) p
    ∙ (ap (λ x. capability_over (record { first = x; second = a.second })) b ∙ sym (capability_back c))

pub image_reads_back : ImageReadsBack
image_reads_back c =
    let n = c.nonempty in
    let m = c.reach in
    let b : word_at (image_of c) 0 ≡ base_of c = word_back (base_of c) (omega arith) in
    let t : word_at (image_of c) 4 ≡ top_of c = word_back (top_of c) (omega arith) in
    ap₂ (λ x y. capability_of x y (permissions_of c)) b t ∙ numbers_back c

-- The meet of bounds.
use Rattle.std.specs.Prelude.{◌≡◌, ℕ, min, max, Bool, true, false, cond, ◌&&◌, ◌||◌, ◌==◌, nat_lt, refl}
use Rattle.std.proofs.Math.Bool.{Bool-set}
use mathlib.Core.HLevel.{is_prop→PathP}
use Rattle.std.proofs.Common.{ap}
use Rattle.authority.specs.Spans.{is_span, shared_base, shared_top}
use Rattle.authority.specs.declared.bounds.Bounds.{Bounds}

pub shared_span : (a b c d : ℕ) → is_span (shared_base a b c d) (shared_top a b c d) ≡ true
shared_span a b c d = go (nat_lt (max a c) (min b d)) refl
  where
    go : (t : Bool) → nat_lt (max a c) (min b d) ≡ t → is_span (cond t (max a c) 0) (cond t (min b d) 0) ≡ true
    go true e = ap (λ u. u || (max a c == 0 && min b d == 0)) e
    go false e = refl

-- the larger base and the smaller top, or empty if that base is not below that top
unfoldable pub meet_bounds : Bounds → Bounds → Bounds
meet_bounds x y = record {
  base = shared_base x.base x.top y.base y.top;
  top = shared_top x.base x.top y.base y.top;
  span = shared_span x.base x.top y.base y.top;
}

-- bounds are equal where base and top are
pub same_bounds : (x y : Bounds) → x.base ≡ y.base → x.top ≡ y.top → x ≡ y
same_bounds x y p q = λ i. record { base = p i; top = q i; span = is_prop→PathP (λ j. is_span (p j) (q j) ≡ true) (λ j. Bool-set (is_span (p j) (q j)) true) x.span y.span i }

-- base and top of a meet
pub meet_base : (x y : Bounds) → (meet_bounds x y).base ≡ shared_base x.base x.top y.base y.top
unfolding meet_bounds
meet_base x y = refl

pub meet_top : (x y : Bounds) → (meet_bounds x y).top ≡ shared_top x.base x.top y.base y.top
unfolding meet_bounds
meet_top x y = refl

pub between_span : (from to : ℕ) → is_span (cond (nat_lt from to) from 0) (cond (nat_lt from to) to 0) ≡ true
between_span from to = go (nat_lt from to) refl
  where
    go : (t : Bool) → nat_lt from to ≡ t → is_span (cond t from 0) (cond t to 0) ≡ true
    go true e = ap (λ u. u || (from == 0 && to == 0)) e
    go false e = refl

-- the addresses from one up to another; empty if the one is not below the other
unfoldable pub bounds_between : ℕ → ℕ → Bounds
bounds_between from to = record { base = cond (nat_lt from to) from 0; top = cond (nat_lt from to) to 0; span = between_span from to }

-- The set bits of a buffer, byte by byte.
use Rattle.std.proofs.Common.{zero, count_by, ◌≡◌, ℕ, suc, ◌+◌, ◌*◌, ◌/◌, ◌%◌, ◌^◌, ◌<◌, ◌≤◌, Bool, false, cond, eqb, List, length, get_or, ap, ◌∙◌, arith}
use native.Mathlib.Nat.{pow-suc, div-one}
use lib.Count.{ones_step}
use Rattle.std.proofs.lemmas.Nat.{ones-le}
use Rattle.std.proofs.lemmas.Nat.Bits.{bit_at-suc}
use Rattle.std.proofs.lemmas.List.Sums.{sum_by-cons}
use Rattle.std.proofs.lemmas.Bool.Decides.{nat_tests}
use Rattle.std.specs.Int.RustNames.{count_ones}
use Rattle.std.specs.List.{range_with_len}
use Rattle.bits.proofs.Masks.{get_d_bits}
use Rattle.bits.specs.Bits.{bit, bits_of}

-- a range that is cut in two
range_cut : (p : ℕ → Bool) (i m n : ℕ) → count_by p (range_with_len i (m + n)) ≡ count_by p (range_with_len i m) + count_by p (range_with_len (i + m) n)
range_cut p i zero n =
    let here : i ≡ i + 0 = omega arith in
    let none : 0 + n ≡ n = omega arith in
    grind arith
range_cut p i (suc m) n =
    let one = sum_by-cons (λ g. cond {A = ℕ} (p g) 1 0) i in
    let more : suc m + n ≡ suc (m + n) = omega arith in
    let later : i + 1 + m ≡ i + suc m = omega arith in
    let whole = ap (λ k. count_by p (range_with_len i k)) more ∙ one (range_with_len (i + 1) (m + n)) in
    let left = one (range_with_len (i + 1) m) in
    let after = range_cut p (i + 1) m n in
    grind (arith, whole, left, after)

-- the set bits of a number of k bits are its ones
ones_counted : (p : ℕ → Bool) (i k b : ℕ) → b < 2 ^ k → ((j : ℕ) → j < k → p (i + j) ≡ bit b j) → count_by p (range_with_len i k) ≡ count_ones b
ones_counted p i zero b h f = omega (arith, ones-le 0 b h)
ones_counted p i (suc k) b h f =
    let here = sum_by-cons (λ g. cond {A = ℕ} (p g) 1 0) i (range_with_len (i + 1) k) in
    let first : i ≡ i + 0 = omega arith in
    let lowest : cond {A = ℕ} (p i) 1 0 ≡ b % 2 = ap (λ t. cond {A = ℕ} t 1 0) (ap p first ∙ f 0 (omega arith)) ∙ odd b in
    let after = ones_counted p (i + 1) k (b / 2) (omega (arith, pow-suc 2 k)) (λ j l. ap p (omega arith) ∙ f (suc j) (omega arith) ∙ ap (λ d. eqb d 1) (bit_at-suc b j)) in
    omega (arith, here, lowest, after, ones_step b)
  where
    odd : (n : ℕ) → cond {A = ℕ} (bit n 0) 1 0 ≡ n % 2
    odd n = grind (arith, div-one, nat_tests)

-- a byte more of a buffer
pub byte_counted :
    (us : List ℕ) (k b : ℕ) → k < length us → get_or us k 0 ≡ b → b < 256 →
    count_by (λ g. get_or (bits_of us) g false) (range_with_len 0 (8 * (k + 1))) ≡ count_by (λ g. get_or (bits_of us) g false) (range_with_len 0 (8 * k)) + count_ones b
byte_counted us k b h e l =
    let p : ℕ → Bool = λ g. get_or (bits_of us) g false in
    let more : 8 * (k + 1) ≡ 8 * k + 8 = omega arith in
    ap (λ n. count_by p (range_with_len 0 n)) more ∙ range_cut p 0 (8 * k) 8
    ∙ ap (λ n. count_by p (range_with_len 0 (8 * k)) + n) (ones_counted p (0 + 8 * k) 8 b l at)
  where
    at : (j : ℕ) → j < 8 → get_or (bits_of us) (0 + 8 * k + j) false ≡ bit b j
    at j m =
        let byte : (0 + 8 * k + j) / 8 ≡ k = omega arith in
        let place : (0 + 8 * k + j) % 8 ≡ j = omega arith in
        grind (arith, get_d_bits)

pub byte_within : (b : ℕ) → b < 256 → count_ones b ≤ 8
byte_within b h = ones-le 8 b h

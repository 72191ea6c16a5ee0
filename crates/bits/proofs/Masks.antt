-- The bits of a buffer after one byte is written, and lists filled from a place on.
use Rattle.std.proofs.Common.{◌≡◌, ℕ, zero, suc, ◌+◌, ◌-◌, ◌*◌, ◌/◌, ◌%◌, ◌^◌, ◌<◌, ◌≤◌, Bool, true, false, cond, eqb, List, length, get_or, set, replicate, refl, sym, ap, ◌∙◌, ⊎_elim, arith}
use lib.Bits.{bit_and, bit_or}
use lib.Seq.{paste}
use native.Mathlib.Nat.{pow-suc, zero-div}
use Rattle.std.proofs.lemmas.List.FromFn.{get_or-map-range_with_len}
use Rattle.std.proofs.lemmas.List.Edits.{fill_from_more}
use Rattle.std.proofs.lemmas.List.{length-set, length-replicate, get_or-replicate, ext_get_or}
use Rattle.std.proofs.lemmas.Bool.{cases_eq, eq-eqb, ne_eqb}
use Rattle.std.proofs.lemmas.Nat.{one_shl, pow_below}
use Rattle.std.proofs.lemmas.Nat.Bits.{bit_at_and, bit_at_or, bit_at_lowest, bit_at-suc, bit_at-pow_same, bit_at-pow_other}
use Rattle.std.proofs.lemmas.Bool.Decides.{nat_tests}
use Rattle.std.proofs.lemmas.Grind.{common_steps}
use Rattle.bits.specs.Bits.{bit_at, bits_of, BitPut, length_bits}

pub get_d_bits : (bs : List ℕ) (g : ℕ) → g < 8 * length bs → get_or (bits_of bs) g false ≡ bit_at bs g
unfolding bits_of
get_d_bits bs g h = get_or-map-range_with_len (bit_at bs) 0 (8 * length bs) g g false h (omega arith)

-- the bit at a place after a write of the byte where another lies
pub bit_at_put : (bs : List ℕ) (g w i : ℕ) (v : Bool) → BitPut (get_or bs (g / 8) 0) w (g % 8) v → g < 8 * length bs → bit_at (set bs (g / 8) w) i ≡ cond (eqb i g) v (bit_at bs i)
bit_at_put bs g w i v p hg =
    let at = p (i % 8) (omega arith) in
    grind (arith, nat_tests, common_steps)

bits_put_at : (bs : List ℕ) (g w : ℕ) (v : Bool) → g < 8 * length bs → BitPut (get_or bs (g / 8) 0) w (g % 8) v → bits_of (set bs (g / 8) w) ≡ set (bits_of bs) g v
bits_put_at bs g w v h p =
    let n = length-set bs (g / 8) w in
    let m = length_bits bs in
    ext_get_or false (bits_of (set bs (g / 8) w)) (set (bits_of bs) g v)
    (omega (arith, length_bits (set bs (g / 8) w), length-set (bits_of bs) g v))
    (λ i l.
    let b : i < 8 * length bs = omega (arith, length_bits (set bs (g / 8) w)) in
    let read = get_d_bits (set bs (g / 8) w) i (omega arith) ∙ bit_at_put bs g w i v p h in
    let was = get_d_bits bs i b in
    grind (arith, nat_tests, common_steps, length_bits))

-- the bits after a write of the byte where place g lies
pub bits_put : (bs : List ℕ) (g i k w : ℕ) (v : Bool) → i ≡ g / 8 → k ≡ g % 8 → i < length bs → BitPut (get_or bs i 0) w k v → bits_of (set bs i w) ≡ set (bits_of bs) g v
bits_put bs g i k w v ei ek h p = rw ei (bits_put_at bs g w v (omega arith) (rw (ei, ek) at p))

-- one more place of a list filled from a place on
pub fill_next : {X : Type 0} (xs : List X) (from g : ℕ) (v : X) → from ≤ g → g < length xs → set (paste xs from (replicate (g - from) v) (g - from)) g v ≡ paste xs from (replicate (g + 1 - from) v) (g + 1 - from)
fill_next xs from g v low high =
    let at : g ≡ from + (g - from) = omega arith in
    let more : g - from + 1 ≡ g + 1 - from = omega arith in
    ap (λ k. set (paste xs from (replicate (g - from) v) (g - from)) k v) at
    ∙ (fill_from_more xs from (g - from) v (omega arith)
    ∙ ap (λ k. paste xs from (replicate k v) k) more)

-- a bit of the number that has the other bits
complement : (k n i : ℕ) → n < 2 ^ k → i < k → (2 ^ k - 1 - n) / 2 ^ i % 2 ≡ 1 - n / 2 ^ i % 2
complement zero n i fits within = absurd (omega arith)
complement (suc k) n zero fits within = omega (arith, bit_at_lowest (2 ^ suc k - 1 - n), bit_at_lowest n, pow-suc 2 k)
complement (suc k) n (suc i) fits within =
    let half : (2 ^ suc k - 1 - n) / 2 ≡ 2 ^ k - 1 - n / 2 = omega (arith, pow-suc 2 k) in
    bit_at-suc _ i ∙ ap (λ x. x / 2 ^ i % 2) half ∙ complement k (n / 2) i (omega (arith, pow-suc 2 k)) (omega arith) ∙ ap (λ d. 1 - d) (sym (bit_at-suc n i))

-- a byte with bit k set, and with bit k cleared
pub put_on : (b k : ℕ) → k < 8 → BitPut b (bit_or b ((1 * 2 ^ k) % 256)) k true
put_on b k hk j hj =
    let one : (1 * 2 ^ k) % 256 ≡ 2 ^ k = one_shl k 8 hk in
    ⊎_elim
    (λ (e : j ≡ k). rw (one, e, eq-eqb k k refl) (let same : bit_or b (2 ^ k) / 2 ^ k % 2 ≡ 1 = omega (arith, bit_at_or b (2 ^ k) k, bit_at-pow_same k) in ap (λ x. eqb x 1) same))
    (λ (ne : j ≡ k → ⊥). rw (one, ne_eqb j k ne) (let other : bit_or b (2 ^ k) / 2 ^ j % 2 ≡ b / 2 ^ j % 2 = omega (arith, bit_at_or b (2 ^ k) j, bit_at-pow_other k j ne) in ap (λ x. eqb x 1) other))
    (cases_eq j k)

pub put_off : (b k : ℕ) → k < 8 → BitPut b (bit_and b (255 - (1 * 2 ^ k) % 256)) k false
put_off b k hk j hj =
    let one : (1 * 2 ^ k) % 256 ≡ 2 ^ k = one_shl k 8 hk in
    let flip : (255 - 2 ^ k) / 2 ^ j % 2 ≡ 1 - 2 ^ k / 2 ^ j % 2 = complement 8 (2 ^ k) j (pow_below k 8 hk) hj in
    ⊎_elim
    (λ (e : j ≡ k). rw (one, e, eq-eqb k k refl) (let same : bit_and b (255 - 2 ^ k) / 2 ^ k % 2 ≡ 0 = omega (arith, bit_at_and b (255 - 2 ^ k) k, rw e at flip, bit_at-pow_same k) in ap (λ x. eqb x 1) same))
    (λ (ne : j ≡ k → ⊥). rw (one, ne_eqb j k ne) (let other : bit_and b (255 - 2 ^ k) / 2 ^ j % 2 ≡ b / 2 ^ j % 2 = omega (arith, bit_at_and b (255 - 2 ^ k) j, flip, bit_at-pow_other k j ne) in ap (λ x. eqb x 1) other))
    (cases_eq j k)

-- zero bytes have no bit set
pub zero_bits : (n i : ℕ) → i < 8 * n → get_or (bits_of (replicate n 0)) i false ≡ false
unfolding bits_of
zero_bits n i h = grind (arith, length-replicate, get_or-map-range_with_len, get_or-replicate, zero-div)

pub bits_zero : (n : ℕ) → bits_of (replicate n 0) ≡ replicate (8 * n) false
bits_zero n =
    let size : length (bits_of (replicate n 0)) ≡ 8 * n = length_bits (replicate n 0) ∙ ap (λ k. 8 * k) (length-replicate n 0) in
    ext_get_or false (bits_of (replicate n 0)) (replicate (8 * n) false) (size ∙ sym (length-replicate (8 * n) false)) (λ i h.
    let b : i < 8 * n = omega arith in zero_bits n i b ∙ sym (get_or-replicate (8 * n) i false false b))

-- Reading a decimal number.
use Rattle.std.proofs.Common.{◌≡◌, ℕ, zero, suc, ◌+◌, ◌-◌, ◌*◌, ◌<◌, ◌≤◌, true, false, leb, List, [], ◌∷◌, length, get_or, Some, None, decimal, Option, sym, refl, ap, ◌∙◌, inl, inr, arith, rules}
use Rattle.std.specs.Str.{all_ascii_digits}
use Rattle.std.specs.Char.{is_ascii_digit}
use Rattle.std.proofs.lemmas.Bool.{cond-true, cond-false, cases_Bool, and_parts, and_from}
use Rattle.std.proofs.lemmas.Str.Parse.{IsNumeralModel, numerals_by_fold, tells_all_ascii_digits}
use Rattle.std.proofs.lemmas.Fmt.{decimal-digits_value, digits_decimal, digits_value-decimal, decimal_nonempty, first_decimal, decimal_digit}
use Rattle.std.proofs.lemmas.Bool.Decides.{nat_tests}
use Rattle.reader.specs.Steps.{with_digit, is_plain}
use Rattle.reader.specs.Texts.{ReadsAs}
use Rattle.reader.proofs.Steps.{steps_over, steps_none}

-- the value of digits after a number
abbrev pub folded : ℕ → List ℕ → ℕ
folded n [] = n
folded n (c ∷ cs) = folded (n * 10 + (c - 48)) cs

-- the loop: each byte as a digit more, while that goes
abbrev pub counted : Option ℕ → List ℕ → Option ℕ
counted = steps_over with_digit

pub own : IsNumeralModel (λ ds. all_ascii_digits ds ≡ true) (folded 0)
own = numerals_by_fold _ tells_all_ascii_digits folded (search rules)

folded_ge : (n : ℕ) (cs : List ℕ) → n ≤ folded n cs
folded_ge n [] = omega arith
folded_ge n (c ∷ cs) = omega (arith, folded_ge (n * 10 + (c - 48)) cs)

digit_some : (n c : ℕ) → is_ascii_digit c ≡ true → n * 10 + (c - 48) ≤ 65535 → with_digit n c ≡ Some (n * 10 + (c - 48))
digit_some n c d h =
    let s : leb (n * 10 + (c - 48)) 65535 ≡ true = grind (arith, nat_tests) in
    cond-true _ _ _ d ∙ cond-true _ _ _ s

counted_some : (n : ℕ) (cs : List ℕ) → all_ascii_digits cs ≡ true → folded n cs ≤ 65535 → counted (Some n) cs ≡ Some (folded n cs)
counted_some n [] a h = refl
counted_some n (c ∷ cs) a h =
    let p = and_parts (is_ascii_digit c) (all_ascii_digits cs) a in
    let g = folded_ge (n * 10 + (c - 48)) cs in
    ap (λ o. counted o cs) (digit_some n c p.0 (omega arith)) ∙ counted_some (n * 10 + (c - 48)) cs p.1 h

-- what a digit more tells
pub record DigitMore (n c m : ℕ) : Type 0 where
  pub digit : is_ascii_digit c ≡ true
  pub value : n * 10 + (c - 48) ≡ m
  pub small : m ≤ 65535

digit_is : (n c m : ℕ) → with_digit n c ≡ Some m → DigitMore n c m
digit_is n c m e =
    elim (cases_Bool (is_ascii_digit c)) [
      | inr x ↦ absurd (let z : ◌≡◌ {A = ℕ} 0 1 = cc (sym e ∙ cond-false _ _ _ x) in omega arith)
      | inl x ↦ elim (cases_Bool (leb (n * 10 + (c - 48)) 65535)) [
        | inr y ↦ absurd (let z : ◌≡◌ {A = ℕ} 0 1 = cc (sym e ∙ (cond-true _ _ _ x ∙ cond-false _ _ _ y)) in omega arith)
        | inl y ↦
            let v : n * 10 + (c - 48) ≡ m = cc (sym e ∙ (cond-true _ _ _ x ∙ cond-true _ _ _ y)) in
            let s : n * 10 + (c - 48) ≤ 65535 = grind (arith, nat_tests) in
            record { digit = x; value = v; small = omega arith }
      ]
    ]

counted_is : (n : ℕ) (cs : List ℕ) (q : ℕ) → n ≤ 65535 → counted (Some n) cs ≡ Some q → (all_ascii_digits cs ≡ true) × (folded n cs ≡ q) × (q ≤ 65535)
counted_is n [] q h e = let k : n ≡ q = cc in (refl, k, omega arith)
counted_is n (c ∷ cs) q h e = go (λ m s f. counted_is m cs q s f) (with_digit n c) refl e
  where
    go : ((m : ℕ) → m ≤ 65535 → counted (Some m) cs ≡ Some q → (all_ascii_digits cs ≡ true) × (folded m cs ≡ q) × (q ≤ 65535)) → (o : Option ℕ) → with_digit n c ≡ o → counted o cs ≡ Some q → (all_ascii_digits (c ∷ cs) ≡ true) × (folded n (c ∷ cs) ≡ q) × (q ≤ 65535)
    go more None w f = absurd (let z : ◌≡◌ {A = ℕ} 0 1 = cc (sym f ∙ steps_none with_digit cs) in omega arith)
    go more (Some m) w f =
        let d = digit_is n c m w in
        let r = more m d.small f in
        (and_from _ _ d.digit r.0, ap (λ k. folded k cs) d.value ∙ r.1, r.2)

pub small_digit : (n c m : ℕ) → with_digit n c ≡ Some m → m ≤ 65535
small_digit n c m e = (digit_is n c m e).small

-- what a word of the loop reads as
pub number_some : (bs : List ℕ) (q : ℕ) → counted (Some 0) bs ≡ Some q → is_plain bs ≡ true → ReadsAs decimal 65535 bs (Some q)
number_some bs q e plain =
    let r = counted_is 0 bs q (omega arith) e in
    let v : folded 0 bs ≡ q = r.1 in
    let some : 0 < length bs = grind (arith, nat_tests) in
    let one : get_or bs 0 0 ≡ 48 → length bs ≡ 1 = λ z. grind (arith, nat_tests) in
    let d = decimal-digits_value own bs r.0 some one (omega arith) in
    (r.2, sym d ∙ ap decimal v)

pub number_none : (bs : List ℕ) → counted (Some 0) bs ≡ None → ReadsAs decimal 65535 bs None
number_none bs e m h t =
    let v : folded 0 bs ≡ m = ap (folded 0) t ∙ digits_value-decimal own m (omega arith) in
    let a : all_ascii_digits bs ≡ true = ap all_ascii_digits t ∙ digits_decimal own m (omega arith) in
    let s = counted_some 0 bs a (omega arith) in
    let z : ◌≡◌ {A = ℕ} 0 1 = cc in omega arith

plain_decimal : (m : ℕ) → m ≤ 65535 → is_plain (decimal m) ≡ true
plain_decimal zero h =
    let l : length (decimal 0) ≡ 1 = ap length (decimal_digit 0 (omega arith)) in
    grind (arith, nat_tests)
plain_decimal (suc m) h =
    let l = decimal_nonempty (suc m) (omega arith) in
    let f = first_decimal (suc m) (omega arith) (omega arith) in
    grind (arith, nat_tests)

pub number_padded : (bs : List ℕ) → is_plain bs ≡ false → ReadsAs decimal 65535 bs None
number_padded bs e m h t =
    let p = ap is_plain t ∙ plain_decimal m h in
    let z : ◌≡◌ {A = ℕ} 0 1 = cc in omega arith

-- a text is that of one number only
pub decimal_once : (m n : ℕ) → m ≤ 65535 → n ≤ 65535 → decimal m ≡ decimal n → m ≡ n
decimal_once m n h k e = sym (digits_value-decimal own m (omega arith)) ∙ (ap (folded 0) e ∙ digits_value-decimal own n (omega arith))

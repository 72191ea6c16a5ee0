-- Reading permission letters.
use Rattle.std.proofs.Common.{◌≡◌, ℕ, zero, suc, ◌+◌, ◌<◌, ◌≤◌, Bool, true, false, not, eqb, ltb, ◌⊎◌, List, [], ◌∷◌, ◌++◌, length, get_or, Some, None, codes, Option, sym, refl, ap, ◌∙◌, inl, inr, arith}
use Rattle.std.proofs.lemmas.List.{append-nil, append_assoc}
use Rattle.std.specs.Str.{bytes_eq}
use Rattle.std.specs.Cmp.Lexicographic.{same_text}
use Rattle.std.proofs.lemmas.Bool.{agree_below_at, cond-true, cond-false, ltb-true, cases_Bool, eqb-true, ne_eqb, not-true}
use Rattle.std.proofs.lemmas.Bool.Decides.{nat_tests}
use Rattle.reader.specs.Steps.{letter_bit, with_bit, with_letter}
use Rattle.reader.specs.Texts.{ReadsAs, letters_of, letters_from}
use Rattle.reader.proofs.Steps.{steps_over, steps_none}

-- the loop: each byte as a letter more, while that goes
abbrev pub spelled : Option ℕ → List ℕ → Option ℕ
spelled = steps_over with_letter

-- tests that compute
abbrev is_some : ℕ → Option ℕ → Bool
is_some q (Some p) = eqb p q
is_some q None = false

some_true : (q : ℕ) (o : Option ℕ) → is_some q o ≡ true → o ≡ Some q
some_true q (Some p) e = ap Some (eqb-true p q e)
some_true q None e = absurd (let z : ◌≡◌ {A = ℕ} 0 1 = cc in omega arith)

-- the 31 numbers from 1 on read back
spelled_letters : (p : ℕ) → p < 31 → spelled (Some 0) (letters_of (suc p)) ≡ Some (suc p)
spelled_letters p h = some_true (suc p) (spelled (Some 0) (letters_of (suc p))) (agree_below_at (λ n. is_some (suc n) (spelled (Some 0) (letters_of (suc n)))) (λ _. true) 31 p refl h)

-- one letter more: 31 cases computed
abbrev lengthens : ℕ → ℕ → ℕ → Bool
lengthens c b s = bytes_eq (letters_from (codes "rwcgo") (s + b)) (letters_from (codes "rwcgo") s ++ (c ∷ []))

some_inj : (a b : ℕ) → Some a ≡ Some b → a ≡ b
some_inj a b e = cc

letter_cases : (c b : ℕ) → letter_bit c ≡ Some b → ((c ≡ 114) × (b ≡ 1)) ⊎ (((c ≡ 119) × (b ≡ 2)) ⊎ (((c ≡ 99) × (b ≡ 4)) ⊎ (((c ≡ 103) × (b ≡ 8)) ⊎ ((c ≡ 111) × (b ≡ 16)))))
letter_cases c b e = grind (arith, nat_tests)

one_more : (c b s : ℕ) → letter_bit c ≡ Some b → s < b → letters_from (codes "rwcgo") (s + b) ≡ letters_from (codes "rwcgo") s ++ (c ∷ [])
one_more c b s e h = same_text _ _ (sym (
    elim (letter_cases c b e) [
      | inl p ↦ rw (p.0, p.1) (agree_below_at (lengthens 114 1) (λ _. true) 1 s refl (omega arith))
      | inr (inl p) ↦ rw (p.0, p.1) (agree_below_at (lengthens 119 2) (λ _. true) 2 s refl (omega arith))
      | inr (inr (inl p)) ↦ rw (p.0, p.1) (agree_below_at (lengthens 99 4) (λ _. true) 4 s refl (omega arith))
      | inr (inr (inr (inl p))) ↦ rw (p.0, p.1) (agree_below_at (lengthens 103 8) (λ _. true) 8 s refl (omega arith))
      | inr (inr (inr (inr p))) ↦ rw (p.0, p.1) (agree_below_at (lengthens 111 16) (λ _. true) 16 s refl (omega arith))
    ]))

-- what a letter more tells
pub record LetterMore (s c m : ℕ) : Type 0 where
  pub bit : ℕ
  pub is : letter_bit c ≡ Some bit
  pub above : s < bit
  pub value : s + bit ≡ m
  pub small : m ≤ 31

bit_is : (s c m : ℕ) (o : Option ℕ) → letter_bit c ≡ o → with_bit s o ≡ Some m → LetterMore s c m
bit_is s c m None w e = absurd (let z : ◌≡◌ {A = ℕ} 0 1 = cc in omega arith)
bit_is s c m (Some b) w e =
    elim (cases_Bool (ltb s b)) [
      | inr x ↦ absurd (let z : ◌≡◌ {A = ℕ} 0 1 = cc (sym e ∙ cond-false _ _ _ x) in omega arith)
      | inl x ↦
          let v : s + b ≡ m = cc (sym e ∙ cond-true _ _ _ x) in
          let l = ltb-true s b x in
          let k : b ≤ 16 = most (letter_cases c b w) in
          record { bit = b; is = w; above = l; value = v; small = omega arith }
    ]
  where
    most : ((c ≡ 114) × (b ≡ 1)) ⊎ (((c ≡ 119) × (b ≡ 2)) ⊎ (((c ≡ 99) × (b ≡ 4)) ⊎ (((c ≡ 103) × (b ≡ 8)) ⊎ ((c ≡ 111) × (b ≡ 16))))) → b ≤ 16
    most h = grind arith

letter_is : (s c m : ℕ) → with_letter s c ≡ Some m → LetterMore s c m
letter_is s c m e = bit_is s c m (letter_bit c) refl e

spelled_is : (s : ℕ) (bs : List ℕ) (q : ℕ) → s ≤ 31 → spelled (Some s) bs ≡ Some q → (q ≤ 31) × (letters_from (codes "rwcgo") q ≡ letters_from (codes "rwcgo") s ++ bs)
spelled_is s [] q h e =
    let k : s ≡ q = cc in
    (omega arith, ap (letters_from (codes "rwcgo")) (sym k) ∙ sym (append-nil (letters_from (codes "rwcgo") s)))
spelled_is s (c ∷ cs) q h e = go (λ m k f. spelled_is m cs q k f) (with_letter s c) refl e
  where
    go : ((m : ℕ) → m ≤ 31 → spelled (Some m) cs ≡ Some q → (q ≤ 31) × (letters_from (codes "rwcgo") q ≡ letters_from (codes "rwcgo") m ++ cs)) → (o : Option ℕ) → with_letter s c ≡ o → spelled o cs ≡ Some q → (q ≤ 31) × (letters_from (codes "rwcgo") q ≡ letters_from (codes "rwcgo") s ++ (c ∷ cs))
    go more None w f = absurd (let z : ◌≡◌ {A = ℕ} 0 1 = cc (sym f ∙ steps_none with_letter cs) in omega arith)
    go more (Some m) w f =
        let d = letter_is s c m w in
        let r = more m d.small f in
        let l : letters_from (codes "rwcgo") m ≡ letters_from (codes "rwcgo") s ++ (c ∷ []) = ap (letters_from (codes "rwcgo")) (sym d.value) ∙ one_more c d.bit s d.is d.above in
        (r.0, r.1 ∙ (ap (λ xs. xs ++ cs) l ∙ append_assoc (letters_from (codes "rwcgo") s) (c ∷ []) cs))

pub small_letter : (s c m : ℕ) → with_letter s c ≡ Some m → m ≤ 31
small_letter s c m e = (letter_is s c m e).small

-- what a word of the loop reads as
pub letters_some : (bs : List ℕ) (q : ℕ) → spelled (Some 0) bs ≡ Some q → 0 < length bs → ReadsAs letters_of 31 bs (Some q)
letters_some bs q e some =
    let r = spelled_is 0 bs q (omega arith) e in
    (r.0, go q r.1)
  where
    go : (p : ℕ) → letters_from (codes "rwcgo") p ≡ bs → bs ≡ letters_of p
    go zero t = absurd (let z : 0 ≡ length bs = ap length t in omega arith)
    go (suc p) t = sym t ∙ sym (cond-false _ _ _ (ne_eqb (suc p) 0 (λ e. omega arith)))

pub letters_none : (bs : List ℕ) → spelled (Some 0) bs ≡ None → (length bs ≡ 1 → get_or bs 0 0 ≡ 45 → ⊥) → ReadsAs letters_of 31 bs None
letters_none bs e dash zero h t = dash (ap length t) (ap (λ xs. get_or xs 0 0) t)
letters_none bs e dash (suc m) h t =
    let s : spelled (Some 0) bs ≡ Some (suc m) = ap (spelled (Some 0)) t ∙ spelled_letters m (omega arith) in
    let z : ◌≡◌ {A = ℕ} 0 1 = cc in omega arith

pub letters_empty : (bs : List ℕ) → length bs ≡ 0 → ReadsAs letters_of 31 bs None
letters_empty bs e m h t =
    let z : length (letters_of m) ≡ 0 = ap length (sym t) ∙ e in
    let k : eqb (length (letters_of m)) 0 ≡ false = not-true _ (agree_below_at (λ n. not (eqb (length (letters_of n)) 0)) (λ _. true) 32 m refl (omega arith)) in
    grind (arith, nat_tests)

pub letters_dash : (bs : List ℕ) → length bs ≡ 1 → get_or bs 0 0 ≡ 45 → ReadsAs letters_of 31 bs (Some 0)
letters_dash [] l e = absurd (omega arith)
letters_dash (x ∷ []) l e = (omega arith, ap (λ y. y ∷ []) e)
letters_dash (x ∷ y ∷ ys) l e = absurd (omega arith)

-- a text is that of one permission number only
pub letters_once : (p q : ℕ) → p ≤ 31 → q ≤ 31 → letters_of p ≡ letters_of q → p ≡ q
letters_once zero zero h k e = refl
letters_once zero (suc q) h k e =
    let s = sym (spelled_letters q (omega arith)) ∙ ap (spelled (Some 0)) (sym e) in
    absurd (let z : ◌≡◌ {A = ℕ} 0 1 = cc in omega arith)
letters_once (suc p) zero h k e =
    let s = sym (spelled_letters p (omega arith)) ∙ ap (spelled (Some 0)) e in
    absurd (let z : ◌≡◌ {A = ℕ} 0 1 = cc in omega arith)
letters_once (suc p) (suc q) h k e =
    let s : Some (suc p) ≡ Some (suc q) = sym (spelled_letters p (omega arith)) ∙ (ap (spelled (Some 0)) e ∙ spelled_letters q (omega arith)) in
    cc

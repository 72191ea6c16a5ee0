-- The words of a line.
use Rattle.std.proofs.Common.{◌≡◌, ℕ, ◌+◌, ◌<◌, ◌≤◌, Bool, true, false, cond, not, eqb, List, [], ◌∷◌, ◌++◌, length, Some, None, Option, sym, refl, ap, ◌∙◌, arith}
use Rattle.std.specs.List as L
use Rattle.std.specs.List.{slice_split, join_with_byte, list_all, IsFirstMatchOrLen, All}
use Rattle.std.specs.declared.slice.Split.{Split}
use Rattle.std.specs.Slice.Iter.{split_rest, split_done, split_steps}
use Rattle.std.specs.Bool.{MatchBool}
use Rattle.std.specs.Fn.{ComputesKey, CalledAt}
use Rattle.std.proofs.lemmas.Fn.{always_returns_same}
use denote.Ref.{Bor}
use denote.Param.Members.{Mut}
use Rattle.std.proofs.lemmas.List.{length-append}
use Rattle.std.proofs.lemmas.List.Sums.{AllPass-from_list_all}
use Rattle.std.proofs.lemmas.List.Splits.{slice_split_none, slice_split_at, join_with_byte-slice_split}
use Rattle.std.proofs.lemmas.Grind.{common_steps}
use Rattle.std.proofs.lemmas.Bool.{not-true}
use Rattle.reader.specs.Calls.{with_spaces}
use Rattle.reader.specs.Lines.{split, onto_first}

-- what a closure that tests bytes may answer, and that it is true just at one byte
abbrev pub Test : Type 1
Test = Mut (Unit {0}) (Bor ℕ × Unit {0}) Bool

abbrev pub CutsAt : ℕ → Test → Type 0
CutsAt stop g = (y : ℕ) (b : Bool) (q : Unit {0}) → CalledAt g tt y b q → (q ≡ tt) × (b ≡ eqb y stop)

pub onto_same : (c : ℕ) (ws : List (List ℕ)) → L.onto_first c ws ≡ onto_first c ws
onto_same c [] = refl
onto_same c (w ∷ ws) = refl

-- the parts between spaces, as std cuts them
pub split_parts : (xs : List ℕ) → slice_split (λ b. eqb b 32) xs ≡ split xs
split_parts [] = refl
split_parts (c ∷ cs) = go (eqb c 32) refl (split_parts cs)
  where
    go : (b : Bool) → eqb c 32 ≡ b → slice_split (λ b. eqb b 32) cs ≡ split cs → slice_split (λ b. eqb b 32) (c ∷ cs) ≡ split (c ∷ cs)
    go true e h = rw (e, h) refl
    go false e h = rw (e, h) (onto_same c (split cs))

-- the words that an iterator over a line has left
abbrev pub words_left : Split ℕ (Unit {0}) → List (List ℕ)
words_left s = cond (split_done s) [] (split (split_rest s))

-- the first part, after which the iterator is at the rest or done
first_part : (xs x rest : List ℕ) (done : Bool) → MatchBool done (xs ≡ x) ((y : ℕ) × (xs ≡ x ++ (y ∷ rest))) → IsFirstMatchOrLen (λ b. eqb b 32) xs (length x)
    → slice_split (λ b. eqb b 32) xs ≡ x ∷ cond done [] (slice_split (λ b. eqb b 32) rest)
first_part xs x rest true e h =
    let front : All (λ z. eqb z 32 ≡ false) x = λ k d l. let a = h.0 k d (omega arith) l in grind (arith, common_steps) in
    ap (slice_split (λ b. eqb b 32)) e ∙ slice_split_none (λ b. eqb b 32) x front
first_part xs x rest false e h =
    let front : All (λ z. eqb z 32 ≡ false) x = λ k d l. let a = h.0 k d (omega arith) l in let b = e.1 in grind (arith, common_steps) in
    let hit : eqb e.0 32 ≡ true = let b = e.1 in let a = h.1 (grind (arith, common_steps)) e.0 in grind (arith, common_steps) in
    ap (slice_split (λ b. eqb b 32)) e.1 ∙ slice_split_at (λ b. eqb b 32) x e.0 rest front hit

-- what a call of `next` takes off
pub word_taken : (g : Test) (s t : Split ℕ (Unit {0})) (r : Option (Bor (List ℕ))) (x : Bor (List ℕ)) → CutsAt 32 g → split_steps g s r t → r ≡ Some x → words_left s ≡ x.now ∷ words_left t
word_taken g s t (Some y) x k h e =
    let l : words_left s ≡ split (split_rest s) = ap (λ b. cond b [] (split (split_rest s))) h.0 in
    let key : ComputesKey g (λ b. eqb b 32) tt = always_returns_same g (λ a b. b ≡ eqb a.0.now 32) tt (λ a b q m. let n = k a.0.now b q (record { shown = a.0; shows = refl; called = m }) in (n.1, n.0)) in
    let p = first_part (split_rest s) y.now (split_rest t) (split_done t) h.1 (h.2 (λ b. eqb b 32) key).1 in
    let y_is : y.now ≡ x.now = cc in
    l ∙ (sym (split_parts (split_rest s)) ∙ (p ∙ ((λ i. y_is i ∷ cond (split_done t) [] (split_parts (split_rest t) i)))))
word_taken g s t None x k h e = absurd (let z : ◌≡◌ {A = ℕ} 0 1 = cc in omega arith)

pub no_words : (g : Test) (s t : Split ℕ (Unit {0})) (r : Option (Bor (List ℕ))) → split_steps g s r t → r ≡ None → words_left s ≡ []
no_words g s t None h e = ap (λ b. cond b [] (split (split_rest s))) h.0
no_words g s t (Some y) h e = absurd (let z : ◌≡◌ {A = ℕ} 0 1 = cc in omega arith)

-- the bytes that an iterator over a line has left, with one more for the space before them
abbrev pub bytes_left : Split ℕ (Unit {0}) → ℕ
bytes_left s = cond (split_done s) 0 (length (split_rest s) + 1)

pub bytes_taken : (g : Test) (s t : Split ℕ (Unit {0})) (r : Option (Bor (List ℕ))) (x : Bor (List ℕ)) → split_steps g s r t → r ≡ Some x → bytes_left s ≡ length x.now + 1 + bytes_left t
bytes_taken g s t (Some y) x h e =
    let y_is : length y.now ≡ length x.now = cc in
    ap (λ b. cond b 0 (length (split_rest s) + 1)) h.0 ∙ go (split_done t) h.1 ∙ ap (λ n. n + 1 + bytes_left t) y_is
  where
    go : (b : Bool) → MatchBool b (split_rest s ≡ y.now) ((z : ℕ) × (split_rest s ≡ y.now ++ (z ∷ split_rest t))) → length (split_rest s) + 1 ≡ length y.now + 1 + cond b 0 (length (split_rest t) + 1)
    go true m = omega (arith, ap length m)
    go false m = omega (arith, ap length m.1, length-append y.now (m.0 ∷ split_rest t))
bytes_taken g s t None x h e = absurd (let z : ◌≡◌ {A = ℕ} 0 1 = cc in omega arith)

-- what is left has a first word, be it empty
has_word : (xs : List ℕ) → (w : List ℕ) × (R : List (List ℕ)) × (split xs ≡ w ∷ R)
has_word [] = ([], [], refl)
has_word (c ∷ cs) = go (eqb c 32) (split cs)
  where
    longer : (ws : List (List ℕ)) → (w : List ℕ) × (R : List (List ℕ)) × (onto_first c ws ≡ w ∷ R)
    longer [] = (c ∷ [], [], refl)
    longer (w ∷ ws) = (c ∷ w, ws, refl)

    go : (b : Bool) (ws : List (List ℕ)) → (w : List ℕ) × (R : List (List ℕ)) × (cond b ([] ∷ ws) (onto_first c ws) ≡ w ∷ R)
    go true ws = ([], ws, refl)
    go false ws = longer ws

pub some_left : (s : Split ℕ (Unit {0})) → 0 < bytes_left s → (w : List ℕ) × (R : List (List ℕ)) × (words_left s ≡ w ∷ R)
some_left s h = go (split_done s) h
  where
    go : (b : Bool) → 0 < cond b 0 (length (split_rest s) + 1) → (w : List ℕ) × (R : List (List ℕ)) × (cond b [] (split (split_rest s)) ≡ w ∷ R)
    go true h = absurd (omega arith)
    go false h = has_word (split_rest s)

pub none_left : (s : Split ℕ (Unit {0})) → bytes_left s ≤ 0 → words_left s ≡ []
none_left s h = go (split_done s) h
  where
    go : (b : Bool) → cond b 0 (length (split_rest s) + 1) ≤ 0 → cond b [] (split (split_rest s)) ≡ []
    go true h = refl
    go false h = absurd (omega arith)

-- at the start of a line
pub first_word : (g : Test) (s t : Split ℕ (Unit {0})) (r : Option (Bor (List ℕ))) (x : Bor (List ℕ)) (line : List ℕ) → split_rest s ≡ line → split_done s ≡ false → CutsAt 32 g → split_steps g s r t → r ≡ Some x → split line ≡ x.now ∷ words_left t
first_word g s t r x line rest done k h e = sym (λ i. cond (done i) [] (split (rest i))) ∙ word_taken g s t r x k h e

pub first_bytes : (g : Test) (s t : Split ℕ (Unit {0})) (r : Option (Bor (List ℕ))) (x : Bor (List ℕ)) (line : List ℕ) → split_rest s ≡ line → split_done s ≡ false → split_steps g s r t → r ≡ Some x → length x.now + bytes_left t ≡ length line
first_bytes g s t r x line rest done h e =
    let all : bytes_left s ≡ length line + 1 = λ i. cond (done i) 0 (length (rest i) + 1) in
    omega (arith, all, bytes_taken g s t r x h e)

-- a line is its words with spaces between
joined : (w : List ℕ) (ws : List (List ℕ)) → join_with_byte 32 (w ∷ ws) ≡ with_spaces w ws
joined w [] = refl
joined w (v ∷ ws) = ap (λ xs. w ++ (32 ∷ xs)) (joined v ws)

pub split_back : (xs w : List ℕ) (ws : List (List ℕ)) → split xs ≡ w ∷ ws → xs ≡ with_spaces w ws
split_back xs w ws e = sym (join_with_byte-slice_split 32 xs) ∙ (ap (join_with_byte 32) (split_parts xs ∙ e) ∙ joined w ws)

-- and words without spaces are those of their line
abbrev pub clean : List ℕ → Bool
clean w = list_all (λ b. not (eqb b 32)) w

abbrev pub Cleans : List (List ℕ) → Type 0
Cleans [] = Unit {0}
Cleans (w ∷ ws) = (clean w ≡ true) × Cleans ws

no_space : (w : List ℕ) → clean w ≡ true → All (λ b. eqb b 32 ≡ false) w
no_space w e k d h = not-true _ (AllPass-from_list_all (λ b. not (eqb b 32)) w e k d h)

pub split_spaces : (w : List ℕ) (ws : List (List ℕ)) → clean w ≡ true → Cleans ws → split (with_spaces w ws) ≡ w ∷ ws
split_spaces w [] e es = sym (split_parts w) ∙ slice_split_none (λ b. eqb b 32) w (no_space w e)
split_spaces w (v ∷ ws) e es =
    let xs = with_spaces v ws in
    sym (split_parts (w ++ (32 ∷ xs))) ∙ (slice_split_at (λ b. eqb b 32) w 32 xs (no_space w e) refl ∙ ap (λ vs. w ∷ vs) (split_parts xs ∙ split_spaces v ws es.0 es.1))

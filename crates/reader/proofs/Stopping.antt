-- Where the reader stops: at a word that is wrong, missing or too many, or at the end of a call.
use Rattle.std.proofs.Common.{◌≡◌, ℕ, suc, ◌+◌, ◌-◌, ◌<◌, ◌≤◌, List, [], ◌∷◌, ◌++◌, length, get_or, take, drop, set, Some, None, Err, Result, sym, refl, ap, ◌∙◌, subst, arith}
use Rattle.std.proofs.lemmas.List.{length-append, take_at, take-append-drop, get_or_at, append-nil, append_assoc, take_more, take_more_set, length-take-le, take_all}
use Rattle.call.specs.declared.Call.{Call}
use Rattle.call.specs.declared.Call.TheVariants as C
use Rattle.reader.specs.declared.place.Place.{Place}
use Rattle.reader.specs.declared.verb.Verb.{Verb}
use Rattle.reader.specs.declared.verb.Kind.{Kind}
use Rattle.reader.specs.declared.verb.Kind.TheVariants.{Number}
use Rattle.reader.specs.Texts.{ReadsAs}
use Rattle.reader.specs.Calls.{name_of, kinds_of, greatest_of, operand_text, operand_texts, WithinKinds, verb_of, operands_of, WritableCall, words_of, text_of, with_spaces}
use Rattle.reader.specs.Lines.{split, Begins, Wrong, Reads}
use Rattle.reader.proofs.Calls.{split_text, texts_length, texts_at, texts_push, fit_push, begins_front, as_call}
use Rattle.reader.proofs.Splits.{split_back}

-- a line that is no call's text, and its first wrong word
abbrev pub Stops : List ℕ → ℕ → Type 0
Stops line k = ((c : Call) → WritableCall c → line ≡ text_of c → ⊥) × Wrong (split line) k

-- what a `?` hands on: p is the place q
pub breaks_at : (line : List ℕ) (number k : ℕ) (r : Result Call Place) (p q : Place) → r ≡ Err p → p ≡ q → q.line ≡ number → q.word ≡ k → Stops line k → Reads line number r
breaks_at line number k r p q e f l w s =
    let law : Reads line number (Err p) = (ap (λ x. x.line) f ∙ l, s.0, subst (λ (j : ℕ). Wrong (split line) j) (sym (ap (λ x. x.word) f ∙ w)) s.1) in
    subst (λ (x : Result Call Place). Reads line number x) (sym e) law

not_call : (line : List ℕ) (k : ℕ) → Wrong (split line) k → k ≤ length (split line) → (c : Call) → WritableCall c → line ≡ text_of c → ⊥
not_call line k w h c f t =
    let e = split_text line c f t in
    w.here h (c, drop k (split line), f, sym e ∙ sym (take-append-drop k (split line)))

-- the first word names no verb
pub no_verb : (line w : List ℕ) (R : List (List ℕ)) → split line ≡ w ∷ R → ((v : Verb) → w ≡ name_of v → ⊥) → Stops line 1
no_verb line w R e none =
    let l : length (split line) ≡ suc (length R) = ap length e in
    let x : Wrong (split line) 1 = record {
      counted = (omega arith, omega arith);
      before = (C.Drop 0 0, words_of (C.Drop 0 0), (omega arith, (omega arith, tt)), refl);
      here = λ h b. none (verb_of b.0) (let q : words_of b.0 ≡ w ∷ b.1 = b.3 ∙ ap (λ ws. take 1 ws ++ b.1) e in cc);
    } in
    (not_call line 1 x (omega arith), x)

front_length : (v : Verb) (i : ℕ) (ns : List ℕ) → WithinKinds (take i (kinds_of v)) ns → i ≤ length (kinds_of v) → length (operand_texts (take i (kinds_of v)) ns) ≡ i
front_length v i ns f h = texts_length (take i (kinds_of v)) ns f ∙ length-take-le i (kinds_of v) h

stop_at : (line : List ℕ) (v : Verb) (i : ℕ) (ns : List ℕ) (w : List ℕ) (R : List (List ℕ))
    → split line ≡ name_of v ∷ (operand_texts (take i (kinds_of v)) ns ++ (w ∷ R)) → WithinKinds (take i (kinds_of v)) ns → i ≤ length (kinds_of v)
    → ((ms : List ℕ) (rest : List (List ℕ)) → WithinKinds (kinds_of v) ms → operand_texts (kinds_of v) ms ≡ operand_texts (take i (kinds_of v)) ns ++ (w ∷ rest) → ⊥)
    → Stops line (i + 2)
stop_at line v i ns w R e f h never =
    let F : List (List ℕ) = operand_texts (take i (kinds_of v)) ns in
    let lf : length F ≡ i = front_length v i ns f h in
    let la : length (F ++ (w ∷ R)) ≡ length F + suc (length R) = length-append F (w ∷ R) in
    let l : length (split line) ≡ suc (length (F ++ (w ∷ R))) = ap length e in
    let one : (i + 2) - 1 ≡ suc i = omega arith in
    let two : i + 2 ≡ suc (suc i) = omega arith in
    let lw : length (F ++ (w ∷ [])) ≡ suc i = length-append F (w ∷ []) ∙ omega arith in
    let tf : take ((i + 2) - 1) (split line) ≡ name_of v ∷ F = ap (λ m. take m (split line)) one ∙ (ap (take (suc i)) e ∙ ap (λ ws. name_of v ∷ ws) (take_at F (w ∷ R) i lf)) in
    let tw : take (i + 2) (split line) ≡ name_of v ∷ (F ++ (w ∷ [])) = ap (λ m. take m (split line)) two ∙ (ap (take (suc (suc i))) e ∙ ap (λ ws. name_of v ∷ ws) (ap (take (suc i)) (sym (append_assoc F (w ∷ []) R)) ∙ take_at (F ++ (w ∷ [])) R (suc i) lw)) in
    let x : Wrong (split line) (i + 2) = record {
      counted = (omega arith, omega arith);
      before = subst Begins (sym tf) (begins_front v i ns f);
      here = λ k b.
          let q : words_of b.0 ≡ name_of v ∷ ((F ++ (w ∷ [])) ++ b.1) = b.3 ∙ ap (λ ws. ws ++ b.1) tw in
          let a = as_call b.0 v ((F ++ (w ∷ [])) ++ b.1) b.2 q in
          never (operands_of b.0) b.1 a.0 (a.1 ∙ append_assoc F (w ∷ []) b.1);
    } in
    (not_call line (i + 2) x (omega arith), x)

-- a word is wrong
pub wrong_word : (line : List ℕ) (v : Verb) (i : ℕ) (ns : List ℕ) (w : List ℕ) (R : List (List ℕ)) (k : Kind)
    → split line ≡ name_of v ∷ (operand_texts (take i (kinds_of v)) ns ++ (w ∷ R)) → WithinKinds (take i (kinds_of v)) ns → i < length (kinds_of v)
    → k ≡ get_or (kinds_of v) i Number → ReadsAs (operand_text k) (greatest_of k) w None → Stops line (i + 2)
wrong_word line v i ns w R k e f h ke none =
    stop_at line v i ns w R e f (omega arith) (λ ms rest g t.
    let lf = front_length v i ns f (omega arith) in
    let a = texts_at (kinds_of v) ms i g h in
    let s : w ≡ operand_text (get_or (kinds_of v) i Number) a.0 = sym (get_or_at (operand_texts (take i (kinds_of v)) ns) w rest [] i lf) ∙ (ap (λ ws. get_or ws i []) (sym t) ∙ a.2) in
    none a.0 (subst (λ (j : Kind). a.0 ≤ greatest_of j) (sym ke) a.1) (s ∙ ap (λ j. operand_text j a.0) (sym ke)))

-- a word is too many
pub too_many : (line : List ℕ) (v : Verb) (i : ℕ) (ns : List ℕ) (w : List ℕ) (R : List (List ℕ))
    → split line ≡ name_of v ∷ (operand_texts (take i (kinds_of v)) ns ++ (w ∷ R)) → WithinKinds (take i (kinds_of v)) ns → i ≡ length (kinds_of v) → Stops line (i + 2)
too_many line v i ns w R e f h =
    stop_at line v i ns w R e f (omega arith) (λ ms rest g t.
    let lf = front_length v i ns f (omega arith) in
    let lt : length (operand_texts (kinds_of v) ms) ≡ length (kinds_of v) = texts_length (kinds_of v) ms g in
    let la : length (operand_texts (kinds_of v) ms) ≡ length (operand_texts (take i (kinds_of v)) ns) + suc (length rest) = ap length t ∙ length-append (operand_texts (take i (kinds_of v)) ns) (w ∷ rest) in
    omega arith)

-- a word is missing
pub missing : (line : List ℕ) (v : Verb) (i : ℕ) (ns : List ℕ)
    → split line ≡ name_of v ∷ (operand_texts (take i (kinds_of v)) ns ++ []) → WithinKinds (take i (kinds_of v)) ns → i < length (kinds_of v) → Stops line (i + 2)
missing line v i ns e f h =
    let F : List (List ℕ) = operand_texts (take i (kinds_of v)) ns in
    let lf : length F ≡ i = front_length v i ns f (omega arith) in
    let e' : split line ≡ name_of v ∷ F = e ∙ ap (λ ws. name_of v ∷ ws) (append-nil F) in
    let l : length (split line) ≡ suc (length F) = ap length e' in (
      (λ c g t.
          let a = as_call c v F g (sym (split_text line c g t) ∙ e') in
          let lt : length (operand_texts (kinds_of v) (operands_of c)) ≡ length (kinds_of v) = texts_length (kinds_of v) (operands_of c) a.0 in
          let la : length (operand_texts (kinds_of v) (operands_of c)) ≡ length F = ap length a.1 in
          omega arith),
      record {
        counted = (omega arith, omega arith);
        before = subst Begins (sym (take_all ((i + 2) - 1) (split line) (omega arith) ∙ e')) (begins_front v i ns f);
        here = λ k b. omega arith;
      },
    )

-- a whole call
pub whole : (line : List ℕ) (v : Verb) (i : ℕ) (ns : List ℕ) (c : Call)
    → split line ≡ name_of v ∷ (operand_texts (take i (kinds_of v)) ns ++ []) → WithinKinds (take i (kinds_of v)) ns → length (kinds_of v) ≤ i
    → verb_of c ≡ v → operands_of c ≡ ns → WritableCall c × (line ≡ text_of c)
whole line v i ns c e f h cv co =
    let a : take i (kinds_of v) ≡ kinds_of v = take_all i (kinds_of v) h in
    let g : WithinKinds (kinds_of v) ns = subst (λ (ks : List Kind). WithinKinds ks ns) a f in
    let t : line ≡ with_spaces (name_of v) (operand_texts (take i (kinds_of v)) ns) = split_back line (name_of v) (operand_texts (take i (kinds_of v)) ns) (e ∙ ap (λ ws. name_of v ∷ ws) (append-nil (operand_texts (take i (kinds_of v)) ns))) in (
      subst (λ (u : Verb). WithinKinds (kinds_of u) (operands_of c)) (sym cv) (subst (λ (xs : List ℕ). WithinKinds (kinds_of v) xs) (sym co) g),
      t ∙ (ap (λ ks. with_spaces (name_of v) (operand_texts ks ns)) a ∙ sym (λ j. with_spaces (name_of (cv j)) (operand_texts (kinds_of (cv j)) (co j)))),
    )

-- one operand more
pub again : (line : List ℕ) (v : Verb) (i : ℕ) (os : List ℕ) (w : List ℕ) (R : List (List ℕ)) (k : Kind) (x : ℕ)
    → split line ≡ name_of v ∷ (operand_texts (take i (kinds_of v)) (take i os) ++ (w ∷ R)) → WithinKinds (take i (kinds_of v)) (take i os) → i < length (kinds_of v) → i < length os
    → k ≡ get_or (kinds_of v) i Number → ReadsAs (operand_text k) (greatest_of k) w (Some x)
    → (split line ≡ name_of v ∷ (operand_texts (take (i + 1) (kinds_of v)) (take (i + 1) (set os i x)) ++ R)) × WithinKinds (take (i + 1) (kinds_of v)) (take (i + 1) (set os i x))
again line v i os w R k x e f h ho ke r =
    let p : take (i + 1) (kinds_of v) ≡ take i (kinds_of v) ++ (k ∷ []) = take_more (kinds_of v) i Number h ∙ ap (λ j. take i (kinds_of v) ++ (j ∷ [])) (sym ke) in
    let q : take (i + 1) (set os i x) ≡ take i os ++ (x ∷ []) = take_more_set os i x ho in
    let F : List (List ℕ) = operand_texts (take i (kinds_of v)) (take i os) in
    let t : operand_texts (take (i + 1) (kinds_of v)) (take (i + 1) (set os i x)) ≡ F ++ (w ∷ []) = (λ j. operand_texts (p j) (q j)) ∙ (texts_push (take i (kinds_of v)) (take i os) k x f ∙ ap (λ y. F ++ (y ∷ [])) (sym r.1)) in (
      e ∙ ap (λ ws. name_of v ∷ ws) (sym (ap (λ ws. ws ++ R) t ∙ append_assoc F (w ∷ []) R)),
      subst (λ (ks : List Kind). WithinKinds ks (take (i + 1) (set os i x))) (sym p) (subst (λ (xs : List ℕ). WithinKinds (take i (kinds_of v) ++ (k ∷ [])) xs) (sym q) (fit_push (take i (kinds_of v)) (take i os) k x f r.0)),
    )

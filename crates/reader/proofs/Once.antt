-- A line reads in one way only.
use Rattle.std.proofs.Common.{◌≡◌, ℕ, ◌+◌, ◌-◌, ◌<◌, ◌≤◌, List, ◌++◌, length, take, drop, Ok, Err, sym, ap, ◌∙◌, ⊎_elim, arith}
use Rattle.std.proofs.lemmas.List.{take-append-drop, append_assoc, take-take}
use Rattle.std.proofs.lemmas.Bool.{cases_order}
use Rattle.reader.specs.Lines.{split, Begins, Wrong, ReadsOnce}
use Rattle.reader.proofs.Calls.{split_text, words_once}

-- there is only one first wrong word
begins_shorter : (ws : List (List ℕ)) (i j : ℕ) → i ≤ j → Begins (take j ws) → Begins (take i ws)
begins_shorter ws i j h b =
    let t : take i (take j ws) ≡ take i ws = take-take i j ws h in
    (b.0, drop i (take j ws) ++ b.1, b.2, b.3 ∙ (ap (λ xs. xs ++ b.1) (sym (take-append-drop i (take j ws)) ∙ ap (λ xs. xs ++ drop i (take j ws)) t) ∙ append_assoc (take i ws) (drop i (take j ws)) b.1))

wrong_not_below : (ws : List (List ℕ)) (j k : ℕ) → Wrong ws j → Wrong ws k → j < k → ⊥
wrong_not_below ws j k a b h =
    let n : k ≤ length ws + 1 = b.counted.1 in
    a.here (omega arith) (begins_shorter ws j (k - 1) (omega arith) b.before)

wrong_once : (ws : List (List ℕ)) (j k : ℕ) → Wrong ws j → Wrong ws k → j ≡ k
wrong_once ws j k a b = ⊎_elim (λ (e : j ≡ k). e) (⊎_elim (λ (l : j < k). absurd (wrong_not_below ws j k a b l)) (λ (l : k < j). absurd (wrong_not_below ws k j b a l))) (cases_order j k)

pub reads_once : ReadsOnce
reads_once line number (Ok c) (Ok d) p q = ap Ok (words_once c d p.0 q.0 (sym (split_text line c p.0 p.1) ∙ split_text line d q.0 q.1))
reads_once line number (Ok c) (Err b) p q = absurd (q.1 c p.0 p.1)
reads_once line number (Err a) (Ok d) p q = absurd (p.1 d q.0 q.1)
reads_once line number (Err a) (Err b) p q =
    let l : a.line ≡ b.line = p.0 ∙ sym q.0 in
    let w : a.word ≡ b.word = wrong_once (split line) a.word b.word p.2 q.2 in
    ap Err (λ i. record { line = l i; word = w i })

-- The lines of a script, one after another.
use Rattle.std.proofs.Common.{◌≡◌, ℕ, ◌+◌, ◌-◌, ◌<◌, ◌≤◌, false, eqb, List, [], ◌∷◌, ◌++◌, length, get_or, take, drop, sym, refl, ap, ◌∙◌, subst, arith}
use Rattle.std.specs.List.{All}
use Rattle.std.proofs.lemmas.List.{append_assoc, take-append-drop, take_more, take_all, drop-drop, length-drop, length-take-le}
use Rattle.std.proofs.lemmas.List.Elements.{All-head, All-tail}
use Rattle.std.proofs.lemmas.Grind.{common_steps}
use Rattle.reader.specs.declared.script.Entry.{Entry}
use Rattle.reader.specs.Scripts.{lines_of, NumberedLine, numbered_from, numbered_lines, Readings}
use Rattle.reader.specs.Steps.{LinePushed}

-- bytes with no end of a line among them
abbrev pub OneLine : List ℕ → Type 0
OneLine w = All (λ b. eqb b 10 ≡ false) w

-- a line that a byte 10 ends, and the lines behind it
lines_at : (w rest : List ℕ) → OneLine w → lines_of (w ++ (10 ∷ rest)) ≡ w ∷ lines_of rest
lines_at [] rest h = refl
lines_at (c ∷ cs) rest h = rw (All-head (λ b. eqb b 10 ≡ false) c cs h, lines_at cs rest (All-tail (λ b. eqb b 10 ≡ false) c cs h)) refl

-- the last line, if there is one
lines_end : (n : ℕ) (w : List ℕ) → OneLine w → numbered_from n (lines_of w) ≡ numbered_from n (w ∷ [])
lines_end n [] h = refl
lines_end n (c ∷ cs) h = ap (numbered_from n) (go c cs h)
  where
    go : (c : ℕ) (cs : List ℕ) → OneLine (c ∷ cs) → lines_of (c ∷ cs) ≡ (c ∷ cs) ∷ []
    go c [] h = rw (All-head (λ b. eqb b 10 ≡ false) c [] h) refl
    go c (d ∷ ds) h = rw (All-head (λ b. eqb b 10 ≡ false) c (d ∷ ds) h, go d ds (All-tail (λ b. eqb b 10 ≡ false) c (d ∷ ds) h)) refl

-- a line and those after it
numbered_cons : (n : ℕ) (w : List ℕ) (ls : List (List ℕ)) → numbered_from n (w ∷ ls) ≡ numbered_from n (w ∷ []) ++ numbered_from (n + 1) ls
numbered_cons n [] ls = refl
numbered_cons n (c ∷ cs) ls = refl

readings_append : (ls ks : List NumberedLine) (es fs : List Entry) → Readings ls es → Readings ks fs → Readings (ls ++ ks) (es ++ fs)
readings_append [] ks [] fs p q = q
readings_append [] ks (e ∷ es) fs p q = absurd p
readings_append (l ∷ ls) ks [] fs p q = absurd p
readings_append (l ∷ ls) ks (e ∷ es) fs p q = (p.0, p.1, readings_append ls ks es fs p.2 q)

-- the entries so far are those of the lines before a byte of the script, and line n begins there and has not ended before byte i
pub record ReadSoFar (script : List ℕ) (start i n : ℕ) (es : List Entry) : Type 0 where
  pub front : List NumberedLine
  pub whole : numbered_lines script ≡ front ++ numbered_from n (lines_of (drop start script))
  pub read : Readings front es
  pub line : OneLine (take (i - start) (drop start script))
  pub within : (start ≤ i) × (n ≤ i + 1)

pub none_read : (script : List ℕ) (es : List Entry) → es ≡ [] → ReadSoFar script 0 0 1 es
none_read script es e = record { front = []; whole = refl; read = subst (λ (xs : List Entry). Readings [] xs) (sym e) tt; line = λ k d l. absurd (omega arith); within = (omega arith, omega arith) }

-- the byte at i
at_start : (script : List ℕ) (start i : ℕ) → start ≤ i → i < length script → (i - start < length (drop start script)) × (get_or (drop start script) (i - start) 0 ≡ get_or script i 0)
at_start script start i s h = (omega (arith, length-drop start script), grind (arith, common_steps))

-- a byte that ends no line
pub byte_read : (script : List ℕ) (start i n : ℕ) (es : List Entry) → i < length script → eqb (get_or script i 0) 10 ≡ false → ReadSoFar script start i n es → ReadSoFar script start (i + 1) n es
byte_read script start i n es h e r =
    let a = at_start script start i r.within.0 h in
    let more : take ((i + 1) - start) (drop start script) ≡ take (i - start) (drop start script) ++ (get_or script i 0 ∷ []) =
    ap (λ k. take k (drop start script)) (omega (arith, r.within.0)) ∙ (take_more (drop start script) (i - start) 0 a.0 ∙ ap (λ b. take (i - start) (drop start script) ++ (b ∷ [])) a.1) in
    record { front = r.front; whole = r.whole; read = r.read; line = subst OneLine (sym more) (one_more (take (i - start) (drop start script)) (get_or script i 0) r.line e); within = (omega arith, omega arith) }
  where
    one_more : (w : List ℕ) (b : ℕ) → OneLine w → eqb b 10 ≡ false → OneLine (w ++ (b ∷ []))
    one_more w b h e = λ k d l. grind (arith, common_steps)

-- the bytes before the byte at i, it, and those behind it
parted : (xs : List ℕ) (k : ℕ) → k < length xs → xs ≡ take k xs ++ (get_or xs k 0 ∷ drop (k + 1) xs)
parted xs k h = sym (take-append-drop (k + 1) xs) ∙ (ap (λ ys. ys ++ drop (k + 1) xs) (take_more xs k 0 h) ∙ append_assoc (take k xs) (get_or xs k 0 ∷ []) (drop (k + 1) xs))

-- the byte that ends line n, whose entry is pushed
pub line_read : (script : List ℕ) (start i n : ℕ) (es fs : List Entry) → i < length script → get_or script i 0 ≡ 10 → ReadSoFar script start i n es
    → LinePushed (take (i - start) (drop start script)) n es fs → ReadSoFar script (i + 1) (i + 1) (n + 1) fs
line_read script start i n es fs h e r p =
    let a = at_start script start i r.within.0 h in
    let w : List ℕ = take (i - start) (drop start script) in
    let rest : List NumberedLine = numbered_from (n + 1) (lines_of (drop (i + 1) script)) in
    let behind : drop ((i - start) + 1) (drop start script) ≡ drop (i + 1) script = drop-drop ((i - start) + 1) start script ∙ ap (λ k. drop k script) (omega (arith, r.within.0)) in
    let cut : drop start script ≡ w ++ (10 ∷ drop (i + 1) script) = parted (drop start script) (i - start) a.0 ∙ (λ j. w ++ ((a.1 ∙ e) j ∷ behind j)) in
    let lines : numbered_from n (lines_of (drop start script)) ≡ numbered_from n (w ∷ []) ++ rest =
    ap (λ xs. numbered_from n (lines_of xs)) cut ∙ (ap (numbered_from n) (lines_at w (drop (i + 1) script) r.line) ∙ numbered_cons n w (lines_of (drop (i + 1) script))) in
    record {
      front = r.front ++ numbered_from n (w ∷ []);
      whole = r.whole ∙ (ap (λ ls. r.front ++ ls) lines ∙ sym (append_assoc r.front (numbered_from n (w ∷ [])) rest));
      read = subst (λ (xs : List Entry). Readings (r.front ++ numbered_from n (w ∷ [])) xs) (sym p.2) (readings_append r.front (numbered_from n (w ∷ [])) es p.0 r.read p.1);
      line = λ k d l. absurd (omega (arith, length-take-le ((i + 1) - (i + 1)) (drop (i + 1) script) (omega arith)));
      within = (omega arith, omega (arith, r.within.1));
    }

-- what follows the last byte 10, whose entry is pushed
pub last_read : (script : List ℕ) (start i n : ℕ) (es fs : List Entry) → length script ≤ i → ReadSoFar script start i n es
    → LinePushed (take (length script - start) (drop start script)) n es fs → Readings (numbered_lines script) fs
last_read script start i n es fs h r p =
    let w : List ℕ = take (length script - start) (drop start script) in
    let all : w ≡ drop start script = take_all (length script - start) (drop start script) (omega (arith, length-drop start script)) in
    let same : take (i - start) (drop start script) ≡ w = take_all (i - start) (drop start script) (omega (arith, length-drop start script)) ∙ sym all in
    let line : OneLine w = subst OneLine same r.line in
    let lines : numbered_lines script ≡ r.front ++ numbered_from n (w ∷ []) =
    r.whole ∙ ap (λ ls. r.front ++ ls) (ap (λ xs. numbered_from n (lines_of xs)) (sym all) ∙ lines_end n w line) in
    subst (λ (ls : List NumberedLine). Readings ls fs) (sym lines) (subst (λ (xs : List Entry). Readings (r.front ++ numbered_from n (w ∷ [])) xs) (sym p.2) (readings_append r.front (numbered_from n (w ∷ [])) es p.0 r.read p.1))

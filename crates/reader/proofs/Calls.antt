-- Words against calls: which words some call begins with, and that words tell the call.
use Rattle.std.proofs.Common.{◌≡◌, ℕ, zero, suc, ◌<◌, ◌≤◌, true, cond, not, eqb, map, List, [], ◌∷◌, ◌++◌, length, get_or, take, decimal, sym, refl, ap, ◌∙◌, subst, arith}
use Rattle.std.specs.Str.{all_ascii_digits}
use Rattle.std.specs.Char.{is_ascii_digit}
use Rattle.std.specs.Str.{bytes_eq}
use Rattle.std.specs.List.{range_with_len}
use Rattle.std.proofs.lemmas.List.FromFn.{fill_by_all}
use Rattle.std.proofs.lemmas.Bool.{agree_below_at, and_parts, and_from}
use Rattle.std.proofs.lemmas.Fmt.{digits_decimal}
use Rattle.std.proofs.lemmas.Bool.Decides.{nat_tests}
use Rattle.call.specs.declared.Call.{Call}
use Rattle.call.specs.declared.Call.TheVariants as C
use Rattle.reader.specs.declared.verb.Verb.{Verb}
use Rattle.reader.specs.declared.verb.Verb.TheVariants as V
use Rattle.reader.specs.declared.verb.Kind.{Kind}
use Rattle.reader.specs.declared.verb.Kind.TheVariants.{Number, Permissions}
use Rattle.reader.specs.Texts.{letters_of}
use Rattle.reader.specs.Calls.{name_of, kinds_of, greatest_of, operand_text, operand_texts, WithinKinds, verb_of, operands_of, WritableCall, words_of, text_of}
use Rattle.reader.specs.Lines.{split, Begins}
use Rattle.reader.proofs.Numbers.{own, decimal_once}
use Rattle.reader.proofs.Spelling.{letters_once}
use Rattle.reader.proofs.Splits.{clean, Cleans, split_spaces}

-- no word of a call has a space
clean_digits : (ds : List ℕ) → all_ascii_digits ds ≡ true → clean ds ≡ true
clean_digits [] e = refl
clean_digits (c ∷ cs) e =
    let p = and_parts (is_ascii_digit c) (all_ascii_digits cs) e in
    let d : is_ascii_digit c ≡ true = p.0 in
    let q : not (eqb c 32) ≡ true = grind (arith, nat_tests) in
    and_from _ _ q (clean_digits cs p.1)

clean_text : (k : Kind) (n : ℕ) → n ≤ greatest_of k → clean (operand_text k n) ≡ true
clean_text Number n h = clean_digits (decimal n) (digits_decimal own n (omega arith))
clean_text Permissions n h = agree_below_at (λ m. clean (letters_of m)) (λ _. true) 32 n refl (omega arith)

clean_texts : (ks : List Kind) (ns : List ℕ) → WithinKinds ks ns → Cleans (operand_texts ks ns)
clean_texts [] [] f = tt
clean_texts [] (n ∷ ns) f = absurd f
clean_texts (k ∷ ks) [] f = absurd f
clean_texts (k ∷ ks) (n ∷ ns) f = (clean_text k n f.0, clean_texts ks ns f.1)

clean_name : (v : Verb) → clean (name_of v) ≡ true
clean_name V.Grant = refl
clean_name V.Derive = refl
clean_name V.Getb = refl
clean_name V.Putb = refl
clean_name V.Putc = refl
clean_name V.Getc = refl
clean_name V.Give = refl
clean_name V.Drop = refl

pub split_text : (line : List ℕ) (c : Call) → WritableCall c → line ≡ text_of c → split line ≡ words_of c
split_text line c f e = ap split e ∙ split_spaces (name_of (verb_of c)) (operand_texts (kinds_of (verb_of c)) (operands_of c)) (clean_name (verb_of c)) (clean_texts (kinds_of (verb_of c)) (operands_of c) f)

-- a name tells its verb
abbrev named : List ℕ → Verb
named bs =
    (cond (bytes_eq bs (name_of V.Grant)) V.Grant
    (cond (bytes_eq bs (name_of V.Derive)) V.Derive
    (cond (bytes_eq bs (name_of V.Getb)) V.Getb
    (cond (bytes_eq bs (name_of V.Putb)) V.Putb
    (cond (bytes_eq bs (name_of V.Putc)) V.Putc
    (cond (bytes_eq bs (name_of V.Getc)) V.Getc
    (cond (bytes_eq bs (name_of V.Give)) V.Give V.Drop)))))))

named_name : (v : Verb) → named (name_of v) ≡ v
named_name V.Grant = refl
named_name V.Derive = refl
named_name V.Getb = refl
named_name V.Putb = refl
named_name V.Putc = refl
named_name V.Getc = refl
named_name V.Give = refl
named_name V.Drop = refl

same_verb : (u v : Verb) → name_of u ≡ name_of v → u ≡ v
same_verb u v e = sym (named_name u) ∙ (ap named e ∙ named_name v)

-- lists that fit
fit_length : (ks : List Kind) (ns : List ℕ) → WithinKinds ks ns → length ns ≡ length ks
fit_length [] [] f = refl
fit_length [] (n ∷ ns) f = absurd f
fit_length (k ∷ ks) [] f = absurd f
fit_length (k ∷ ks) (n ∷ ns) f = ap suc (fit_length ks ns f.1)

pub texts_length : (ks : List Kind) (ns : List ℕ) → WithinKinds ks ns → length (operand_texts ks ns) ≡ length ks
texts_length [] [] f = refl
texts_length [] (n ∷ ns) f = absurd f
texts_length (k ∷ ks) [] f = absurd f
texts_length (k ∷ ks) (n ∷ ns) f = ap suc (texts_length ks ns f.1)

-- the word of an operand is the text of some number of its kind
pub texts_at : (ks : List Kind) (ns : List ℕ) (i : ℕ) → WithinKinds ks ns → i < length ks → (n : ℕ) × (n ≤ greatest_of (get_or ks i Number)) × (get_or (operand_texts ks ns) i [] ≡ operand_text (get_or ks i Number) n)
texts_at [] ns i f h = absurd (omega arith)
texts_at (k ∷ ks) [] i f h = absurd f
texts_at (k ∷ ks) (n ∷ ns) zero f h = (n, f.0, refl)
texts_at (k ∷ ks) (n ∷ ns) (suc i) f h = texts_at ks ns i f.1 (omega arith)

pub texts_push : (ks : List Kind) (ns : List ℕ) (k : Kind) (n : ℕ) → WithinKinds ks ns → operand_texts (ks ++ (k ∷ [])) (ns ++ (n ∷ [])) ≡ operand_texts ks ns ++ (operand_text k n ∷ [])
texts_push [] [] k n f = refl
texts_push [] (m ∷ ms) k n f = absurd f
texts_push (j ∷ ks) [] k n f = absurd f
texts_push (j ∷ ks) (m ∷ ns) k n f = ap (λ ws. operand_text j m ∷ ws) (texts_push ks ns k n f.1)

pub fit_push : (ks : List Kind) (ns : List ℕ) (k : Kind) (n : ℕ) → WithinKinds ks ns → n ≤ greatest_of k → WithinKinds (ks ++ (k ∷ [])) (ns ++ (n ∷ []))
fit_push [] [] k n f h = (h, tt)
fit_push [] (m ∷ ms) k n f h = absurd f
fit_push (j ∷ ks) [] k n f h = absurd f
fit_push (j ∷ ks) (m ∷ ns) k n f h = (f.0, fit_push ks ns k n f.1 h)

-- a front of operands can be filled up
pub record Filled (ks : List Kind) (front : List (List ℕ)) : Type 0 where
  pub ns : List ℕ
  pub rest : List (List ℕ)
  pub fits : WithinKinds ks ns
  pub is : operand_texts ks ns ≡ front ++ rest

filled : (ks : List Kind) (i : ℕ) (ns : List ℕ) → WithinKinds (take i ks) ns → Filled ks (operand_texts (take i ks) ns)
filled [] zero ns f = record { ns = []; rest = []; fits = tt; is = refl }
filled [] (suc i) ns f = record { ns = []; rest = []; fits = tt; is = refl }
filled (k ∷ ks) zero ns f =
    let r = filled ks zero [] (nil ks) in
    record { ns = 0 ∷ r.ns; rest = operand_texts (k ∷ ks) (0 ∷ r.ns); fits = (omega arith, r.fits); is = refl }
  where
    nil : (ks : List Kind) → WithinKinds (take 0 ks) []
    nil [] = tt
    nil (k ∷ ks) = tt
filled (k ∷ ks) (suc i) [] f = absurd f
filled (k ∷ ks) (suc i) (n ∷ ns) f =
    let r = filled ks i ns f.1 in
    record { ns = n ∷ r.ns; rest = r.rest; fits = (f.0, r.fits); is = ap (λ ws. operand_text k n ∷ ws) r.is }

-- the call of a verb and operands
abbrev pub call_from : Verb → List ℕ → Call
call_from V.Grant ns = C.Grant (get_or ns 0 0) (get_or ns 1 0) (get_or ns 2 0)
call_from V.Derive ns = C.Derive (get_or ns 0 0) (get_or ns 1 0) (get_or ns 2 0) (get_or ns 3 0) (get_or ns 4 0) (get_or ns 5 0)
call_from V.Getb ns = C.Getb (get_or ns 0 0) (get_or ns 1 0) (get_or ns 2 0)
call_from V.Putb ns = C.Putb (get_or ns 0 0) (get_or ns 1 0) (get_or ns 2 0) (get_or ns 3 0)
call_from V.Putc ns = C.Putc (get_or ns 0 0) (get_or ns 1 0) (get_or ns 2 0) (get_or ns 3 0)
call_from V.Getc ns = C.Getc (get_or ns 0 0) (get_or ns 1 0) (get_or ns 2 0) (get_or ns 3 0)
call_from V.Give ns = C.Give (get_or ns 0 0) (get_or ns 1 0) (get_or ns 2 0) (get_or ns 3 0)
call_from V.Drop ns = C.Drop (get_or ns 0 0) (get_or ns 1 0)

from_verb : (v : Verb) (ns : List ℕ) → verb_of (call_from v ns) ≡ v
from_verb V.Grant ns = refl
from_verb V.Derive ns = refl
from_verb V.Getb ns = refl
from_verb V.Putb ns = refl
from_verb V.Putc ns = refl
from_verb V.Getc ns = refl
from_verb V.Give ns = refl
from_verb V.Drop ns = refl

each_element : (ns : List ℕ) (n : ℕ) → length ns ≡ n → map (λ k. get_or ns k 0) (range_with_len 0 n) ≡ ns
each_element ns n l = sym (fill_by_all (λ k. get_or ns k 0) ns n 0 l (λ k h. refl))

from_operands : (v : Verb) (ns : List ℕ) → length ns ≡ length (kinds_of v) → operands_of (call_from v ns) ≡ ns
from_operands V.Grant ns l = each_element ns 3 l
from_operands V.Derive ns l = each_element ns 6 l
from_operands V.Getb ns l = each_element ns 3 l
from_operands V.Putb ns l = each_element ns 4 l
from_operands V.Putc ns l = each_element ns 4 l
from_operands V.Getc ns l = each_element ns 4 l
from_operands V.Give ns l = each_element ns 4 l
from_operands V.Drop ns l = each_element ns 2 l

-- a call is that of its verb and operands
pub from_parts : (c : Call) → call_from (verb_of c) (operands_of c) ≡ c
from_parts (C.Grant a b c) = refl
from_parts (C.Derive a b c d e f) = refl
from_parts (C.Getb a b c) = refl
from_parts (C.Putb a b c d) = refl
from_parts (C.Putc a b c d) = refl
from_parts (C.Getc a b c d) = refl
from_parts (C.Give a b c d) = refl
from_parts (C.Drop a b) = refl

-- words that some call begins with
pub begins_front : (v : Verb) (i : ℕ) (ns : List ℕ) → WithinKinds (take i (kinds_of v)) ns → Begins (name_of v ∷ operand_texts (take i (kinds_of v)) ns)
begins_front v i ns f =
    let r = filled (kinds_of v) i ns f in
    let cv = from_verb v r.ns in
    let co = from_operands v r.ns (fit_length (kinds_of v) r.ns r.fits) in
    let law : WritableCall (call_from v r.ns) = subst (λ (u : Verb). WithinKinds (kinds_of u) (operands_of (call_from v r.ns))) (sym cv) (subst (λ (xs : List ℕ). WithinKinds (kinds_of v) xs) (sym co) r.fits) in
    let e : words_of (call_from v r.ns) ≡ name_of v ∷ operand_texts (kinds_of v) r.ns = λ j. name_of (cv j) ∷ operand_texts (kinds_of (cv j)) (co j) in
    (call_from v r.ns, r.rest, law, e ∙ ap (λ ws. name_of v ∷ ws) r.is)

-- a call that begins with a verb's name has this verb
pub as_call : (c : Call) (v : Verb) (G : List (List ℕ)) → WritableCall c → words_of c ≡ name_of v ∷ G → WithinKinds (kinds_of v) (operands_of c) × (operand_texts (kinds_of v) (operands_of c) ≡ G)
as_call c v G f e =
    let n : name_of (verb_of c) ≡ name_of v = cc in
    let t : operand_texts (kinds_of (verb_of c)) (operands_of c) ≡ G = cc in
    let u = same_verb (verb_of c) v n in
    (subst (λ (x : Verb). WithinKinds (kinds_of x) (operands_of c)) u f, ap (λ x. operand_texts (kinds_of x) (operands_of c)) (sym u) ∙ t)

-- texts tell their operands
text_once : (k : Kind) (m n : ℕ) → m ≤ greatest_of k → n ≤ greatest_of k → operand_text k m ≡ operand_text k n → m ≡ n
text_once Number m n g h e = decimal_once m n g h e
text_once Permissions m n g h e = letters_once m n g h e

texts_once : (ks : List Kind) (ms ns : List ℕ) → WithinKinds ks ms → WithinKinds ks ns → operand_texts ks ms ≡ operand_texts ks ns → ms ≡ ns
texts_once [] [] [] f g e = refl
texts_once [] [] (n ∷ ns) f g e = absurd g
texts_once [] (m ∷ ms) ns f g e = absurd f
texts_once (k ∷ ks) [] ns f g e = absurd f
texts_once (k ∷ ks) (m ∷ ms) [] f g e = absurd g
texts_once (k ∷ ks) (m ∷ ms) (n ∷ ns) f g e =
    let x : operand_text k m ≡ operand_text k n = cc in
    let y : operand_texts ks ms ≡ operand_texts ks ns = cc in
    let p = text_once k m n f.0 g.0 x in
    let q = texts_once ks ms ns f.1 g.1 y in cc

-- words tell their call
pub words_once : (c d : Call) → WritableCall c → WritableCall d → words_of c ≡ words_of d → c ≡ d
words_once c d f g e =
    let n : name_of (verb_of c) ≡ name_of (verb_of d) = cc in
    let u = same_verb (verb_of c) (verb_of d) n in
    let a = as_call c (verb_of d) (operand_texts (kinds_of (verb_of d)) (operands_of d)) f e in
    let o = texts_once (kinds_of (verb_of d)) (operands_of c) (operands_of d) a.0 g a.1 in
    sym (from_parts c) ∙ ((λ j. call_from (u j) (o j)) ∙ from_parts d)

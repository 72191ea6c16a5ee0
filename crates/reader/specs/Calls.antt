-- The text of a call: its verb and its operands, with single spaces between.
use Rattle.std.specs.Prelude.{ℕ, ◌≤◌, List, [], ◌∷◌, ◌++◌, codes, decimal}
use Rattle.call.specs.declared.Call.{Call}
use Rattle.call.specs.declared.Call.TheVariants as C
use Rattle.reader.specs.declared.verb.Verb.{Verb}
use Rattle.reader.specs.declared.verb.Verb.TheVariants as V
use Rattle.reader.specs.declared.verb.Kind.{Kind}
use Rattle.reader.specs.declared.verb.Kind.TheVariants.{Number, Permissions}
use Rattle.reader.specs.Texts.{letters_of}

-- the word that names a verb
abbrev pub name_of : Verb → List ℕ
name_of V.Grant = codes "grant"
name_of V.Derive = codes "derive"
name_of V.Getb = codes "getb"
name_of V.Putb = codes "putb"
name_of V.Putc = codes "putc"
name_of V.Getc = codes "getc"
name_of V.Give = codes "give"
name_of V.Drop = codes "drop"

-- what its operands are written as
abbrev pub kinds_of : Verb → List Kind
kinds_of V.Grant = Number ∷ Number ∷ Number ∷ []
kinds_of V.Derive = Number ∷ Number ∷ Number ∷ Number ∷ Number ∷ Permissions ∷ []
kinds_of V.Getb = Number ∷ Number ∷ Number ∷ []
kinds_of V.Putb = Number ∷ Number ∷ Number ∷ Number ∷ []
kinds_of V.Putc = Number ∷ Number ∷ Number ∷ Number ∷ []
kinds_of V.Getc = Number ∷ Number ∷ Number ∷ Number ∷ []
kinds_of V.Give = Number ∷ Number ∷ Number ∷ Number ∷ []
kinds_of V.Drop = Number ∷ Number ∷ []

-- the greatest operand of a kind
abbrev pub greatest_of : Kind → ℕ
greatest_of Number = 65535
greatest_of Permissions = 31

-- the text of an operand: a number in decimal, permissions in letters
abbrev pub operand_text : Kind → ℕ → List ℕ
operand_text Number n = decimal n
operand_text Permissions p = letters_of p

-- the texts of operands
abbrev pub operand_texts : List Kind → List ℕ → List (List ℕ)
operand_texts [] ns = []
operand_texts (k ∷ ks) [] = []
operand_texts (k ∷ ks) (n ∷ ns) = operand_text k n ∷ operand_texts ks ns

-- one operand for each kind, none too great
abbrev pub WithinKinds : List Kind → List ℕ → Type 0
WithinKinds [] [] = Unit {0}
WithinKinds [] (n ∷ ns) = ⊥
WithinKinds (k ∷ ks) [] = ⊥
WithinKinds (k ∷ ks) (n ∷ ns) = (n ≤ greatest_of k) × WithinKinds ks ns

-- a call's verb
abbrev pub verb_of : Call → Verb
verb_of (C.Grant c r n) = V.Grant
verb_of (C.Derive c r s lo len p) = V.Derive
verb_of (C.Getb c r off) = V.Getb
verb_of (C.Putb c r off v) = V.Putb
verb_of (C.Putc c r off s) = V.Putc
verb_of (C.Getc c r off s) = V.Getc
verb_of (C.Give c r d s) = V.Give
verb_of (C.Drop c r) = V.Drop

-- a call's operands
abbrev pub operands_of : Call → List ℕ
operands_of (C.Grant c r n) = c ∷ r ∷ n ∷ []
operands_of (C.Derive c r s lo len p) = c ∷ r ∷ s ∷ lo ∷ len ∷ p ∷ []
operands_of (C.Getb c r off) = c ∷ r ∷ off ∷ []
operands_of (C.Putb c r off v) = c ∷ r ∷ off ∷ v ∷ []
operands_of (C.Putc c r off s) = c ∷ r ∷ off ∷ s ∷ []
operands_of (C.Getc c r off s) = c ∷ r ∷ off ∷ s ∷ []
operands_of (C.Give c r d s) = c ∷ r ∷ d ∷ s ∷ []
operands_of (C.Drop c r) = c ∷ r ∷ []

-- a call that a line can write: each operand within its kind's range
abbrev pub WritableCall : Call → Type 0
WritableCall c = WithinKinds (kinds_of (verb_of c)) (operands_of c)

-- a call's words
abbrev pub words_of : Call → List (List ℕ)
words_of c = name_of (verb_of c) ∷ operand_texts (kinds_of (verb_of c)) (operands_of c)

-- a word and more words, with single spaces between
abbrev pub with_spaces : List ℕ → List (List ℕ) → List ℕ
with_spaces w [] = w
with_spaces w (v ∷ ws) = w ++ (32 ∷ with_spaces v ws)

-- a call's text
abbrev pub text_of : Call → List ℕ
text_of c = with_spaces (name_of (verb_of c)) (operand_texts (kinds_of (verb_of c)) (operands_of c))

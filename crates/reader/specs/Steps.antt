-- What the steps of the reader answer: the contracts of its private functions.
use Rattle.std.specs.Prelude.{◌≡◌, ℕ, ◌+◌, ◌-◌, ◌*◌, Bool, cond, not, ◌&&◌, ◌||◌, List, [], ◌∷◌, ◌++◌, length, Some, None, Option, ◌==◌, ◌≢◌, nat_le, nat_lt, slice_index}
use Rattle.std.specs.Char.{is_ascii_digit}
use Rattle.reader.specs.declared.verb.Verb.{Verb}
use Rattle.reader.specs.Calls.{name_of}
use Rattle.reader.specs.Scripts.{numbered_from, Readings}
use Rattle.reader.specs.declared.script.Entry.{Entry}

-- a number with one digit more: none if the byte is no digit or the number passes 65,535
abbrev pub with_digit : ℕ → ℕ → Option ℕ
with_digit n c = cond (is_ascii_digit c) (cond (nat_le (n * 10 + (c - 48)) 65535) (Some (n * 10 + (c - 48))) None) None

-- a word that is not empty and has no leading zero
abbrev pub is_plain : List ℕ → Bool
is_plain bs = nat_lt 0 (length bs) && (nat_le (length bs) 1 || not (slice_index bs 0 == 48))

-- the bit of a permission letter
abbrev pub letter_bit : ℕ → Option ℕ
letter_bit c = cond (c == 114) (Some 1) (cond (c == 119) (Some 2) (cond (c == 99) (Some 4) (cond (c == 103) (Some 8) (cond (c == 111) (Some 16) None))))

-- permissions with a bit more: none unless it is above all of theirs
abbrev pub with_bit : ℕ → Option ℕ → Option ℕ
with_bit p (Some b) = cond (nat_lt p b) (Some (p + b)) None
with_bit p None = None

-- permissions with one letter more
abbrev pub with_letter : ℕ → ℕ → Option ℕ
with_letter p c = with_bit p (letter_bit c)

-- what verb a word names: none if it is no verb's name
abbrev pub NamesVerb : List ℕ → Option Verb → Type 0
NamesVerb word (Some v) = word ≡ name_of v
NamesVerb word None = (v : Verb) → word ≢ name_of v

-- the entries after are those before, and the line's if it is not empty
abbrev pub LinePushed : List ℕ → ℕ → List Entry → List Entry → Type 0
LinePushed line number before after = (es : List Entry) × Readings (numbered_from number (line ∷ [])) es × (after ≡ before ++ es)

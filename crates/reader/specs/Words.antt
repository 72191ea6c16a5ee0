-- Words that borrow the script.
use Rattle.std.specs.Prelude.{◌≡◌, ℕ, List, Some, None, Ok, Err, Option, Result}
use Rattle.reader.specs.declared.place.Place.{Place}
use Rattle.reader.specs.declared.verb.Verb.{Verb as TheVerb}
use Rattle.reader.specs.declared.verb.Kind.{Kind}
use Rattle.reader.specs.declared.verb.Kind.TheVariants as K
use Rattle.reader.specs.declared.word.Word.{Word}
use Rattle.reader.specs.declared.word.Word.TheVariants.{Verb, Number, Permissions}
use Rattle.reader.specs.Calls.{operand_text, greatest_of}
use Rattle.reader.specs.Steps.{NamesVerb}
use Rattle.reader.specs.Texts.{ReadsAs}

-- a word's bytes
abbrev pub text_in : Word → List ℕ
text_in (Verb t p) = t.now
text_in (Number t p) = t.now
text_in (Permissions t p) = t.now

-- its place
abbrev pub place_in : Word → Place
place_in (Verb t p) = p
place_in (Number t p) = p
place_in (Permissions t p) = p

-- the kind of operand that it is, if it is one
abbrev pub kind_in : Word → Option Kind
kind_in (Verb t p) = None
kind_in (Number t p) = Some K.Number
kind_in (Permissions t p) = Some K.Permissions

-- a value that is read at a place, or the place
abbrev pub ReadAt : {X : Type 0} → (Option X → Type 0) → Place → Result X Place → Type 0
ReadAt P place (Ok x) = P (Some x)
ReadAt P place (Err at) = (at ≡ place) × P None

-- the verb that a word names, or its place
abbrev pub VerbRead : Word → Result TheVerb Place → Type 0
VerbRead (Verb t p) r = ReadAt (NamesVerb t.now) p r
VerbRead (Number t p) r = r ≡ Err p
VerbRead (Permissions t p) r = r ≡ Err p

-- the number that a word stands for, or its place
abbrev pub ValueRead : Word → Result ℕ Place → Type 0
ValueRead (Verb t p) r = r ≡ Err p
ValueRead (Number t p) r = ReadAt (ReadsAs (operand_text K.Number) (greatest_of K.Number) t.now) p r
ValueRead (Permissions t p) r = ReadAt (ReadsAs (operand_text K.Permissions) (greatest_of K.Permissions) t.now) p r

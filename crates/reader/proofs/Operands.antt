-- A word of a kind reads as that kind does.
use Rattle.std.proofs.Common.{◌≡◌, ℕ, List, Some, Result, subst, arith}
use Rattle.reader.specs.declared.place.Place.{Place}
use Rattle.reader.specs.declared.verb.Kind.{Kind}
use Rattle.reader.specs.declared.verb.Kind.TheVariants as K
use Rattle.reader.specs.declared.word.Word.{Word}
use Rattle.reader.specs.declared.word.Word.TheVariants.{Verb, Number, Permissions}
use Rattle.reader.specs.Calls.{operand_text, greatest_of}
use Rattle.reader.specs.Texts.{ReadsAs}
use Rattle.reader.specs.Words.{text_in, place_in, kind_in, ReadAt, ValueRead}

value_as : (w : Word) (k : Kind) (r : Result ℕ Place) → kind_in w ≡ Some k → ValueRead w r → ReadAt (ReadsAs (operand_text k) (greatest_of k) (text_in w)) (place_in w) r
value_as (Verb t p) k r e v = absurd (let z : ◌≡◌ {A = ℕ} 0 1 = cc in omega arith)
value_as (Number t p) K.Number r e v = v
value_as (Number t p) K.Permissions r e v = absurd (let z : ◌≡◌ {A = ℕ} 0 1 = cc in omega arith)
value_as (Permissions t p) K.Number r e v = absurd (let z : ◌≡◌ {A = ℕ} 0 1 = cc in omega arith)
value_as (Permissions t p) K.Permissions r e v = v

pub operand_read : (w : Word) (k : Kind) (t : List ℕ) (p : Place) (r : Result ℕ Place) → kind_in w ≡ Some k → text_in w ≡ t → place_in w ≡ p → ValueRead w r → ReadAt (ReadsAs (operand_text k) (greatest_of k) t) p r
operand_read w k t p r e u q v =
    subst (λ (x : Place). ReadAt (ReadsAs (operand_text k) (greatest_of k) t) x r) q
    (subst (λ (x : List ℕ). ReadAt (ReadsAs (operand_text k) (greatest_of k) x) (place_in w) r) u (value_as w k r e v))

use Rattle.std.proofs.Common.{◌≡◌, ◌+◌, ◌∷◌, ◌++◌, length, take}
use Rattle.reader.specs.Calls.{name_of, operand_texts, kinds_of, WithinKinds}
use Rattle.reader.specs.Lines.{split}
use Rattle.reader.proofs.Splits.{words_left, bytes_left}
use Rattle.reader.proofs.line.read_line.Given as goal

-- the line's words are the verb's name, the texts of the operands so far, and the words to come, which begin behind `end`
abbrev pub invariant-loop-i : goal.invariant-loop-i
invariant-loop-i l = record {
  words : split l.line ≡ name_of l.verb ∷ (operand_texts (take l.i (kinds_of l.verb)) (take l.i l.operands) ++ words_left l.words);
  fit : WithinKinds (take l.i (kinds_of l.verb)) (take l.i l.operands);
  six : length l.operands ≡ 6;
  ends : l.end + bytes_left l.words ≡ length l.line;
}

use Rattle.std.proofs.Common.{◌+◌, vec_items}
use Rattle.reader.proofs.Reading.{ReadSoFar}
use Rattle.reader.proofs.script.read_lines.Given as goal

-- the entries are those of the lines that have ended, and the bytes since are of one line
abbrev pub invariant-loop-i : goal.invariant-loop-i
invariant-loop-i l = ReadSoFar l.script l.start l.i (l.index + 1) (vec_items l.entries)

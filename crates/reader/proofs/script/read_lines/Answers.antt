use Rattle.std.proofs.Common.{◌+◌, rules}
use Rattle.reader.proofs.Reading.{byte_read, line_read, last_read}
use Rattle.reader.proofs.script.read_lines.Goals as goal
use Rattle.reader.proofs.script.read_lines.Goals.{then-byte-eq10+in_ok-push_line, else-byte-eq10}

pub loop-i-preserved : goal.loop-i-preserved
loop-i-preserved c = elim c.if-byte-eq10.branch [
  | then-byte-eq10+in_ok-push_line w ↦ rw (w.entries-is, w.start-is, w.index-is) (line_read c.args.script.now c.loop-i.start c.loop-i.i (c.loop-i.index + 1) _ _ c.loop-i-test.true w.if-byte-eq10.true c.loop-i.invariant w.in_ok-push_line.ensures)
  | else-byte-eq10 w ↦ rw (w.entries-is, w.start-is, w.index-is) (byte_read c.args.script.now c.loop-i.start c.loop-i.i (c.loop-i.index + 1) _ c.loop-i-test.true (search rules) c.loop-i.invariant)
]

pub returns : goal.returns
returns c = last_read c.args.script.now c.loop-i.start c.loop-i.i (c.loop-i.index + 1) _ _ (search rules) c.loop-i.invariant c.in_ok-push_line-2.ensures

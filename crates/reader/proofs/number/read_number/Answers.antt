use Rattle.std.proofs.Common.{rules}
use Rattle.reader.proofs.Steps.{steps_more, steps_stop, steps_all}
use Rattle.reader.proofs.Numbers.{small_digit, number_some, number_none, number_padded}
use Rattle.reader.proofs.number.read_number.Goals as goal

pub returns-then-not-plain : goal.returns-then-not-plain
returns-then-not-plain c = number_padded c.args.text.now (search rules)

pub loop-byte-preserved : goal.loop-byte-preserved
loop-byte-preserved c = search (rules, steps_more, small_digit)

pub returns : goal.returns
returns c = number_some c.args.text.now _ (search (rules, steps_all)) (search rules)

pub returns-in_err-number : goal.returns-in_err-number
returns-in_err-number c = rw c.from_residual.ensures (number_none c.args.text.now (search (rules, steps_stop)))

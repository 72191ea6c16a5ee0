use Rattle.std.proofs.Common.{rules}
use Rattle.reader.proofs.Steps.{steps_more, steps_stop, steps_all}
use Rattle.reader.proofs.Spelling.{small_letter, letters_some, letters_none, letters_empty, letters_dash}
use Rattle.reader.proofs.letters.read_permissions.Goals as goal

pub returns-in-empty : goal.returns-in-empty
returns-in-empty c = letters_empty c.args.text.now (search rules)

pub returns-in-45 : goal.returns-in-45
returns-in-45 c = letters_dash c.args.text.now (search rules) (search rules)

pub loop-byte-preserved : goal.loop-byte-preserved
loop-byte-preserved c = search (rules, steps_more, small_letter)

pub returns : goal.returns
returns c = letters_some c.args.text.now _ (search (rules, steps_all)) (search rules)

pub returns-in_err-permissions : goal.returns-in_err-permissions
returns-in_err-permissions c = rw c.from_residual.ensures (letters_none c.args.text.now (search (rules, steps_stop)) (search rules))

use Rattle.std.proofs.Common.{rules}
use Rattle.memory.proofs.Flats.{granules_checked}
use Rattle.memory.proofs.flat.Flat.new.Goals as goal

pub invariant_of-result-2 : goal.invariant_of-result-2
invariant_of-result-2 c = search (rules, granules_checked)

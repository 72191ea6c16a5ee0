use Rattle.std.proofs.Common.{arith}
use Rattle.std.proofs.lemmas.Grind.{common_steps}
use Rattle.std.proofs.lemmas.Slice.{between_is}
use Rattle.quarantine.proofs.Quarantine.finish.Goals as goal

pub returns : goal.returns
returns c = grind (arith, common_steps, between_is)

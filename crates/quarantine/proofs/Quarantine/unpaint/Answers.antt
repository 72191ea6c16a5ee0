use Rattle.std.proofs.Common.{arith}
use Rattle.std.proofs.lemmas.Grind.{common_steps}
use Rattle.std.proofs.lemmas.List.{take-take}
use Rattle.quarantine.proofs.Quarantine.unpaint.Goals as goal

pub returns : goal.returns
returns c =
    let q = c.args.self.now in
    grind (arith, common_steps, take-take q.counts.painted q.counts.held q.runs q.counts.order)

use Rattle.std.proofs.Common.{arith, rules}
use Rattle.next_fit.proofs.Counts.{allocated}
use Rattle.next_fit.proofs.NextFitAllocator.allocate.Goals as goal

pub returns-clause-cells : goal.returns-clause-cells
returns-clause-cells c =
    let s = c.args.self.now in
    allocated s.used.now s.firsts.now c.fill.new.bits c.begin_run.new.firsts s.mark c.args.n c.in_ok-b.b c.in_ok-b.mark c.in_ok-admit.field-0
    c.in_ok-admit.ensures (search rules) (search rules) (omega arith) (omega arith) c.fill.ensures c.begin_run.ensures

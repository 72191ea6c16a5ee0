use Rattle.std.proofs.Common.{rules, ℕ, List}
use Rattle.report.proofs.Printing.{fixed_is, prints, state_is}
use Rattle.report.proofs.run_text.Goals as goal

pub returns-in-Ok : goal.returns-in-Ok
returns-in-Ok c =
    let m = c.new-machine.result in
    let k = fixed_is m.memory.bytes.now m.memory.tags.now m.allocator.below.used.now m.allocator.below.firsts.now m.allocator.limit (search rules) (search rules) (search rules) in
    let s = state_is m.registers m.memory.bytes.now m.memory.tags.now m.allocator.below.used.now m.allocator.below.firsts.now m.allocator.below.mark (search rules) (search rules) (search rules) (search rules) (search rules) in
    let run = λ (text : List ℕ). prints _ _ _ _ text _ k s c.in-Ok.ensures.runs in
    search (rules, run)

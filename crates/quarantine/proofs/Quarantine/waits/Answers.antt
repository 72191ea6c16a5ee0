use Rattle.std.proofs.Common.{eqb, ap, ◌∙◌, rules, tests}
use Rattle.std.proofs.lemmas.Iterator.{YieldsList-from_slice}
use Rattle.std.proofs.lemmas.Iterator.Search.{any_from_yields_List}
use Rattle.quarantine.specs.Runs.{begins_at}
use Rattle.quarantine.specs.declared.run.Run.{Run}
use Rattle.quarantine.proofs.Finds.{any_begins}
use Rattle.quarantine.proofs.Quarantine.waits.Goals as goal

pub returns : goal.returns
returns c =
    let runs = c.waiting.result.now in
    any_from_yields_List (λ (r : Run). eqb r.start c.args.start) _ _ c.any.result c.any.ensures.ran (YieldsList-from_slice runs cc) (λ x b q k. search (rules, tests))
    ∙ (any_begins runs c.args.start ∙ ap (λ rs. begins_at rs c.args.start) c.waiting.ensures)

use Rattle.std.proofs.Common.{false, get_or, ap, ◌∙◌, arith, rules, tests}
use Rattle.std.proofs.lemmas.Iterator.{YieldsList-from_slice}
use Rattle.std.proofs.lemmas.Iterator.Search.{any_from_yields_List}
use Rattle.quarantine.specs.Kept.{painted_of}
use Rattle.quarantine.specs.Runs.{in_run, in_runs}
use Rattle.quarantine.specs.declared.run.Run.{Run}
use Rattle.quarantine.proofs.Finds.{any_holds}
use Rattle.quarantine.proofs.Shadows.{get_or_shadow}
use Rattle.quarantine.proofs.Quarantine.is_painted.Goals as goal

pub returns-then-granule-lt-SHADOW_GRANULES : goal.returns-then-granule-lt-SHADOW_GRANULES
returns-then-granule-lt-SHADOW_GRANULES c =
    let q = c.args.self.now in
    c.get.ensures ∙ (ap (λ bs. get_or bs c.args.granule false) q.shaded ∙ get_or_shadow (painted_of q) c.args.granule (omega arith))

pub returns-else-granule-lt-SHADOW_GRANULES : goal.returns-else-granule-lt-SHADOW_GRANULES
returns-else-granule-lt-SHADOW_GRANULES c =
    let runs = c.painted.result.now in
    any_from_yields_List (λ (r : Run). in_run r c.args.granule) _ _ c.any.result c.any.ensures.ran (YieldsList-from_slice runs cc) (λ x b q k. search (rules, tests))
    ∙ (any_holds runs c.args.granule ∙ ap (λ rs. in_runs rs c.args.granule) c.painted.ensures)

use Rattle.std.proofs.Common.{arith}
use Rattle.std.proofs.lemmas.Grind.{common_steps}
use Rattle.quarantine.proofs.Shadows.{shadow_more}
use Rattle.quarantine.proofs.shade.shade.Goals as goal

pub loop-run-preserved : goal.loop-run-preserved
loop-run-preserved c = grind (arith, common_steps, shadow_more)

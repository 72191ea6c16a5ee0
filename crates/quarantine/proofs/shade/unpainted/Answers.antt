use Rattle.quarantine.proofs.Shadows.{shadow_none}
use Rattle.quarantine.proofs.shade.unpainted.Goals as goal

pub returns : goal.returns
returns c = shadow_none

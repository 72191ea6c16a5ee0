use Rattle.authority.proofs.Making.{capability_back}
use Rattle.authority.proofs.capability.Capability.over.Goals as goal

pub returns : goal.returns
returns c = capability_back _

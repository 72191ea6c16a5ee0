use Rattle.history.proofs.Accesses.{accesses_follow_provenance}
use Rattle.history.proofs.accesses_follow_provenance.Goals as goal

pub returns : goal.returns
returns c = accesses_follow_provenance

use Rattle.history.proofs.Apart.{group_cannot_interfere}
use Rattle.history.proofs.group_cannot_interfere.Goals as goal

pub returns : goal.returns
returns c = group_cannot_interfere

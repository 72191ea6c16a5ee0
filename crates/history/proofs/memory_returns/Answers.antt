use Rattle.history.proofs.Returning.{memory_returns}
use Rattle.history.proofs.memory_returns.Goals as goal

pub returns : goal.returns
returns c = memory_returns

use Rattle.std.proofs.Common.{rules}
use Rattle.std.proofs.lemmas.Slice.{between_is}
use Rattle.quarantine.proofs.Quarantine.waiting.Goals as goal

pub returns : goal.returns
returns c = search (rules, between_is)

use Rattle.authority.proofs.Making.{permissions_back}
use Rattle.authority.proofs.permissions.Permissions.from_number.Goals as goal

pub returns : goal.returns
returns c = permissions_back _

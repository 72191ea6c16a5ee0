use Rattle.std.proofs.Common.{rules}
use Rattle.authority.proofs.Making.{image_reads_back}
use Rattle.authority.proofs.capability.Capability.from_image.Goals as goal

pub returns : goal.returns
returns c = record { value = search rules; back = image_reads_back }

-- What an allocator's fault is: its denial.
use Rattle.denial.specs.declared.Denial.{Denial}
use Rattle.denial.specs.declared.Denial.TheVariants as D
use Rattle.allocator.specs.declared.fault.AllocatorFault.{AllocatorFault}
use Rattle.allocator.specs.declared.fault.AllocatorFault.TheVariants.{BadNum, NotWhole, Allowance, NoRun, Sizes}

abbrev pub allocator_denial : AllocatorFault → Denial
allocator_denial BadNum = D.BadNum
allocator_denial NotWhole = D.NotWhole
allocator_denial Allowance = D.Allowance
allocator_denial NoRun = D.NoRun
allocator_denial Sizes = D.Sizes

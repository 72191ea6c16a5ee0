-- What a memory's fault is: its denial.
use Rattle.denial.specs.declared.Denial.{Denial}
use Rattle.denial.specs.declared.Denial.TheVariants as D
use Rattle.memory.specs.declared.fault.MemoryFault.{MemoryFault}
use Rattle.memory.specs.declared.fault.MemoryFault.TheVariants.{Bounds, BadNum, Sizes}

abbrev pub memory_denial : MemoryFault → Denial
memory_denial Bounds = D.Bounds
memory_denial BadNum = D.BadNum
memory_denial Sizes = D.Sizes

-- What a machine's fault is: its denial and its layer.
use Rattle.denial.specs.declared.Denial.{Denial}
use Rattle.denial.specs.declared.Denial.TheVariants as D
use Rattle.denial.specs.declared.Layer.{Layer}
use Rattle.denial.specs.declared.Layer.TheVariants as L
use Rattle.allocator.specs.Faults.{allocator_denial}
use Rattle.memory.specs.declared.fault.MemoryFault.{MemoryFault}
use Rattle.memory.specs.declared.fault.MemoryFault.TheVariants as T
use Rattle.quarantine.specs.Faults.{quarantine_denial}
use Rattle.machine.specs.declared.fault.MachineFault.{MachineFault}
use Rattle.machine.specs.declared.fault.MachineFault.TheVariants.{BadNum, Empty, Perm, Bounds, Align, NoCap, NotWhole, Nothing, FullReg, Sizes, Quarantine, Allocator}

-- the denial of a fault; the faults of quarantine and allocator are held whole
abbrev pub machine_denial : MachineFault → Denial
machine_denial BadNum = D.BadNum
machine_denial Empty = D.Empty
machine_denial Perm = D.Perm
machine_denial Bounds = D.Bounds
machine_denial Align = D.Align
machine_denial NoCap = D.NoCap
machine_denial NotWhole = D.NotWhole
machine_denial Nothing = D.Nothing
machine_denial FullReg = D.FullReg
machine_denial Sizes = D.Sizes
machine_denial (Quarantine f) = quarantine_denial f
machine_denial (Allocator f) = allocator_denial f

-- the layer of a fault
abbrev pub machine_layer : MachineFault → Layer
machine_layer BadNum = L.Machine
machine_layer Empty = L.Machine
machine_layer Perm = L.Machine
machine_layer Bounds = L.Machine
machine_layer Align = L.Machine
machine_layer NoCap = L.Machine
machine_layer NotWhole = L.Machine
machine_layer Nothing = L.Machine
machine_layer FullReg = L.Machine
machine_layer Sizes = L.Machine
machine_layer (Quarantine f) = L.Quarantine
machine_layer (Allocator f) = L.Allocator

-- what a memory denies, the machine denies as its own
abbrev pub from_memory : MemoryFault → MachineFault
from_memory T.Bounds = Bounds
from_memory T.BadNum = BadNum
from_memory T.Sizes = Sizes

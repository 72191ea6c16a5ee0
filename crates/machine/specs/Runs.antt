-- Runs, and what a sweep over painted runs does to registers; what it does to tags, bytes and map is the sweep's own.
use Rattle.std.specs.Prelude.{◌/◌, cond, List, map, Some, None, Option}
use Rattle.authority.specs.Capabilities.{base_of}
use Rattle.authority.specs.declared.capability.Capability.{Capability}
pub use Rattle.quarantine.specs.Runs.{begins_at, in_run, in_runs, most_runs}
pub use Rattle.sweep.specs.Sweeping.{released_cells, swept_tag, swept_tags, wiped_bytes, wiped_tags}
use Rattle.machine.specs.declared.compartment.Compartment.{Compartment}
use Rattle.quarantine.specs.declared.run.Run.{Run}
use Rattle.machine.specs.declared.registers.Registers.{Registers}

-- what opening a sweep leaves in a register: nothing if the granule of its base is painted
abbrev pub survivor : List Run → Option Capability → Option Capability
survivor rs None = None
survivor rs (Some c) = cond (in_runs rs (base_of c / 16)) None (Some c)

abbrev pub emptied_compartment : List Run → Compartment → Compartment
emptied_compartment rs c = record { registers = map (survivor rs) c.registers }

abbrev pub emptied_registers : List Run → Registers → Registers
emptied_registers rs x = record { compartments = map (emptied_compartment rs) x.compartments }

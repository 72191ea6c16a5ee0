-- The model of a machine: what changes with calls, and what is fixed from construction on.
use Rattle.std.specs.Prelude.{ℕ, ◌+◌, ◌*◌, ◌/◌, Bool, true, false, List, [], ◌∷◌, ◌++◌, length, get_or, replicate, Some, None, Ok, Err, Option, Result, slice_index_or, slice_set}
use Rattle.allocator.specs.declared.cell.Cell.{Cell}
use Rattle.allocator.specs.declared.cell.Cell.TheVariants.{Free}
use Rattle.allocator.specs.Maps.{Rule, Lawful}
use Rattle.authority.specs.declared.capability.Capability.{Capability}
use Rattle.memory.specs.Memories.{with_image}
use Rattle.machine.specs.Runs.{emptied_registers, released_cells, swept_tags, wiped_bytes, wiped_tags}
use Rattle.machine.specs.declared.compartment.Compartment.{Compartment}
use Rattle.machine.specs.declared.registers.Registers.{Registers}
use Rattle.quarantine.specs.declared.run.Run.{Run}
use Rattle.quarantine.specs.declared.sweep.Sweep.{Sweep}
use Rattle.quarantine.specs.declared.sweep.Sweep.TheVariants.{Idle, Open}
use Rattle.machine.specs.declared.fault.MachineFault.{MachineFault}

-- the number of compartments, and of the registers of each
abbrev pub compartment_count : ℕ
compartment_count = 8

abbrev pub register_count : ℕ
register_count = 8

-- what is fixed: the granules of memory and allocator, the allowance, the placement rule with its law
pub record Fixed : Type 0 where
  pub memory_granules : ℕ
  pub allocator_granules : ℕ
  pub most : ℕ
  pub place : Rule
  pub lawful : Lawful place

-- what calls change: the registers, the memory's bytes and tags, the allocator's map and mark,
-- the runs that wait in quarantine, those painted by the open sweep, and the sweep
pub record State : Type 0 where
  pub registers : Registers
  pub bytes : List ℕ
  pub tags : List Bool
  pub cells : List Cell
  pub mark : ℕ
  pub waiting : List Run
  pub painted : List Run
  pub sweep : Sweep

-- a compartment with empty registers
abbrev pub empty_compartment : Compartment
empty_compartment = record { registers = replicate register_count None }

abbrev pub empty_registers : Registers
empty_registers = record { compartments = replicate compartment_count empty_compartment }

-- the state of a fresh machine
abbrev pub fresh_state : Fixed → State
fresh_state K = record {
  registers = empty_registers;
  bytes = replicate (16 * K.memory_granules) 0;
  tags = replicate K.memory_granules false;
  cells = replicate K.allocator_granules Free;
  mark = 0;
  waiting = [];
  painted = [];
  sweep = Idle;
}

-- what a call comes to: a denial, which leaves the state, or an answer and the next state
pub data Effect : Type 0 where
  denied : MachineFault → Effect
  accepted : ℕ → State → Effect

abbrev pub outcome : Effect → Result ℕ MachineFault
outcome (denied f) = Err f
outcome (accepted x s) = Ok x

abbrev pub state_after : State → Effect → State
state_after s (denied f) = s
state_after s (accepted x t) = t

-- register r of compartment c
abbrev pub register_in : Registers → ℕ → ℕ → Option Capability
register_in rs c r = slice_index_or (get_or rs.compartments c empty_compartment).registers r None

abbrev pub with_register_in : Registers → ℕ → ℕ → Option Capability → Registers
with_register_in rs c r o = record {
  compartments = slice_set rs.compartments c (record { registers = slice_set (get_or rs.compartments c empty_compartment).registers r o });
}

abbrev pub register_at : State → ℕ → ℕ → Option Capability
register_at s c r = register_in s.registers c r

abbrev pub with_register : State → ℕ → ℕ → Option Capability → State
with_register s c r o = record {
  registers = with_register_in s.registers c r o;
  bytes = s.bytes;
  tags = s.tags;
  cells = s.cells;
  mark = s.mark;
  waiting = s.waiting;
  painted = s.painted;
  sweep = s.sweep;
}

-- a byte stored, and its granule's tag cleared
abbrev pub with_byte : State → ℕ → ℕ → State
with_byte s at v = record {
  registers = s.registers;
  bytes = slice_set s.bytes at v;
  tags = slice_set s.tags (at / 16) false;
  cells = s.cells;
  mark = s.mark;
  waiting = s.waiting;
  painted = s.painted;
  sweep = s.sweep;
}

-- a capability's image stored at granule g, and its tag set
abbrev pub with_capability : State → ℕ → Capability → State
with_capability s g c = record {
  registers = s.registers;
  bytes = with_image s.bytes g (Some c);
  tags = slice_set s.tags g true;
  cells = s.cells;
  mark = s.mark;
  waiting = s.waiting;
  painted = s.painted;
  sweep = s.sweep;
}

-- another map and mark
abbrev pub with_map : State → List Cell → ℕ → State
with_map s cs m = record {
  registers = s.registers;
  bytes = s.bytes;
  tags = s.tags;
  cells = cs;
  mark = m;
  waiting = s.waiting;
  painted = s.painted;
  sweep = s.sweep;
}

-- one more run waits
abbrev pub with_waiting : State → Run → State
with_waiting s r = record {
  registers = s.registers;
  bytes = s.bytes;
  tags = s.tags;
  cells = s.cells;
  mark = s.mark;
  waiting = s.waiting ++ (r ∷ []);
  painted = s.painted;
  sweep = s.sweep;
}

-- a sweep opens: the waiting runs are painted, and registers with a painted base are emptied
abbrev pub with_painted : State → State
with_painted s = record {
  registers = emptied_registers s.waiting s.registers;
  bytes = s.bytes;
  tags = s.tags;
  cells = s.cells;
  mark = s.mark;
  waiting = [];
  painted = s.waiting;
  sweep = Open 0;
}

-- k granules from p on are passed
abbrev pub with_passed : State → ℕ → ℕ → State
with_passed s p k = record {
  registers = s.registers;
  bytes = s.bytes;
  tags = swept_tags s.painted s.bytes p k s.tags;
  cells = s.cells;
  mark = s.mark;
  waiting = s.waiting;
  painted = s.painted;
  sweep = Open (p + k);
}

-- a sweep ends: the painted runs are wiped and released, in the order freed
abbrev pub with_ended : State → State
with_ended s = record {
  registers = s.registers;
  bytes = wiped_bytes (length s.tags) s.painted s.bytes;
  tags = wiped_tags s.painted s.tags;
  cells = released_cells s.painted s.cells;
  mark = s.mark;
  waiting = s.waiting;
  painted = [];
  sweep = Idle;
}

-- a sweep is shut: the painted runs wait again, before the others
abbrev pub with_shut : State → State
with_shut s = record {
  registers = s.registers;
  bytes = s.bytes;
  tags = s.tags;
  cells = s.cells;
  mark = s.mark;
  waiting = s.painted ++ s.waiting;
  painted = [];
  sweep = Idle;
}

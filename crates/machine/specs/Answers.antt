-- What the checks of several calls answer.
use Rattle.std.specs.Prelude.{ℕ, ◌+◌, ◌-◌, ◌/◌, ◌%◌, cond, Some, None, Ok, Err, Option, Result, ◌==◌, nat_le}
use Rattle.authority.specs.Capabilities.{base_of, top_of}
use Rattle.authority.specs.declared.capability.Capability.{Capability}
use Rattle.machine.specs.declared.fault.MachineFault.{MachineFault}
use Rattle.machine.specs.declared.fault.MachineFault.TheVariants.{Align, Bounds, Empty}

-- the capability of a register, or that it is empty
abbrev pub held_answer : Option Capability → Result Capability MachineFault
held_answer None = Err Empty
held_answer (Some c) = Ok c

-- the number of bytes of a capability
abbrev pub length_of : Capability → ℕ
length_of a = top_of a - base_of a

-- the granule at base + off: BOUNDS unless off + 16 is at most the length, ALIGN unless base + off is a multiple of 16
abbrev pub granule_answer : Capability → ℕ → Result ℕ MachineFault
granule_answer a off =
    cond (nat_le (off + 16) (length_of a)) (cond ((base_of a + off) % 16 == 0) (Ok ((base_of a + off) / 16)) (Err Align)) (Err Bounds)

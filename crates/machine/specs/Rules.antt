-- The rules of the calls: their checks in order, and what an accepted call answers and changes.
use Rattle.std.specs.Prelude.{ℕ, ◌+◌, ◌-◌, ◌*◌, ◌/◌, ◌%◌, Bool, false, cond, not, ◌&&◌, List, length, Some, None, Ok, Err, Option, Result, ◌==◌, nat_le, nat_lt}
use Rattle.allocator.specs.Allocators.{Allocation, allocating}
use Rattle.allocator.specs.Maps.{run_length}
use Rattle.allocator.specs.declared.fault.AllocatorFault.{AllocatorFault}
use Rattle.authority.specs.BoundsMeet.{bounds_between}
use Rattle.authority.specs.Capabilities.{Authority, base_of, top_of, permissions_of, capability_of, capability_over, meet_authority}
use Rattle.authority.specs.Masks.{all_permissions, allows}
use Rattle.authority.specs.PermissionsMeet.{permissions_from}
use Rattle.authority.specs.declared.capability.Capability.{Capability}
use Rattle.authority.specs.declared.permission.Permission.TheVariants.{Load, Store, Capabilities, Give, Own}
use Rattle.authority.specs.declared.permissions.Permissions.{Permissions}
use Rattle.memory.specs.Memories.{byte_read, capability_stored, change_at, granule_read}
use Rattle.memory.specs.declared.fault.MemoryFault.{MemoryFault}
use Rattle.machine.specs.Answers.{granule_answer, length_of}
use Rattle.machine.specs.Calls.{Call}
use Rattle.machine.specs.Faults.{from_memory}
use Rattle.machine.specs.Model.{Fixed, State, Effect, denied, accepted, compartment_count, register_count, register_at, with_register, with_byte, with_capability, with_map, with_waiting, with_painted, with_passed, with_ended, with_shut}
use Rattle.machine.specs.Runs.{begins_at, in_runs, most_runs}
use Rattle.quarantine.specs.declared.fault.QuarantineFault.TheVariants as Q
use Rattle.quarantine.specs.declared.run.Run.{Run}
use Rattle.quarantine.specs.declared.sweep.Sweep.{Sweep}
use Rattle.quarantine.specs.declared.sweep.Sweep.TheVariants.{Idle, Open}
use Rattle.machine.specs.declared.fault.MachineFault.{MachineFault}
use Rattle.machine.specs.declared.fault.MachineFault.TheVariants.{BadNum, Empty, Perm, Bounds, NoCap, NotWhole, Nothing, FullReg, Sizes, Quarantine, Allocator}

-- a check: denied unless it holds
abbrev pub unless : Bool → MachineFault → Effect → Effect
unless t f e = cond t e (denied f)

-- a register that the call reads: denied if it is empty
abbrev pub held : Option Capability → (Capability → Effect) → Effect
held None k = denied Empty
held (Some c) k = k c

-- a register that the call may not overwrite
abbrev pub vacant : Option Capability → Effect → Effect
vacant None e = e
vacant (Some c) e = denied FullReg

-- a permission number: denied if it is none
abbrev pub permitted : Option Permissions → (Permissions → Effect) → Effect
permitted None k = denied BadNum
permitted (Some p) k = k p

-- what the memory answers, or its denial
abbrev pub by_memory : {X : Type 0} → Result X MemoryFault → (X → Effect) → Effect
by_memory (Err f) k = denied (from_memory f)
by_memory (Ok x) k = k x

-- compartments, registers and other operands have their ranges
abbrev pub is_register : ℕ → ℕ → Bool
is_register c r = nat_lt c compartment_count && nat_lt r register_count

abbrev pub is_operand : ℕ → Bool
is_operand n = nat_le n 65535

-- grant c r n: register r of c gets the bytes of a new run of n granules with all permissions; its base address is answered
abbrev pub granted : State → ℕ → ℕ → ℕ → Allocation → Result ℕ AllocatorFault → Effect
granted s c r n a (Err f) = denied (Allocator f)
granted s c r n a (Ok b) = accepted (16 * b) (with_register (with_map s a.cells a.mark) c r (capability_of (16 * b) (16 * b + 16 * n) all_permissions))

abbrev pub grant_rule : Fixed → State → ℕ → ℕ → ℕ → Effect
grant_rule K s c r n =
    unless (is_register c r && (is_operand n && nat_lt 0 n)) BadNum
    (unless (K.memory_granules == K.allocator_granules) Sizes
    (granted s c r n (allocating K.place s.cells s.mark K.most n) (allocating K.place s.cells s.mark K.most n).answer))

-- derive c r s lo len p: r gets the meet of s with bounds base + lo to base + lo + len and permissions p; its length is answered
abbrev pub wanted : Capability → ℕ → ℕ → Permissions → Authority
wanted a lo len p = record { first = bounds_between (base_of a + lo) (base_of a + lo + len); second = p }

-- what deriving gives, with a permission number: none if nothing is left, or if the number is none
abbrev pub derived_with : Capability → ℕ → ℕ → Option Permissions → Option Capability
derived_with a lo len None = None
derived_with a lo len (Some p) = capability_over (meet_authority a.authority (wanted a lo len p))

abbrev pub derived : Capability → ℕ → ℕ → ℕ → Option Capability
derived a lo len n = derived_with a lo len (permissions_from n)

abbrev pub narrowed : State → ℕ → ℕ → Option Capability → Effect
narrowed s c r None = denied Nothing
narrowed s c r (Some d) = accepted (length_of d) (with_register s c r (Some d))

abbrev pub derive_rule : State → ℕ → ℕ → ℕ → ℕ → ℕ → ℕ → Effect
derive_rule s c r t lo len n =
    unless (is_register c r && (is_register c t && (is_operand lo && is_operand len))) BadNum
    (permitted (permissions_from n) λ p.
    held (register_at s c t) λ a.
    narrowed s c r (capability_over (meet_authority a.authority (wanted a lo len p))))

-- getb c r off: the byte at base + off is answered
abbrev pub getb_rule : State → ℕ → ℕ → ℕ → Effect
getb_rule s c r off =
    unless (is_register c r && is_operand off) BadNum
    (held (register_at s c r) λ a.
    unless (allows (permissions_of a) Load) Perm
    (unless (nat_lt off (length_of a)) Bounds
    (by_memory (byte_read s.bytes (base_of a + off)) λ v. accepted v s)))

-- putb c r off v: v is stored at base + off
abbrev pub putb_rule : State → ℕ → ℕ → ℕ → ℕ → Effect
putb_rule s c r off v =
    unless (is_register c r && (is_operand off && nat_le v 255)) BadNum
    (held (register_at s c r) λ a.
    unless (allows (permissions_of a) Store) Perm
    (unless (nat_lt off (length_of a)) Bounds
    (by_memory (change_at (base_of a + off) (length s.bytes)) λ _. accepted 0 (with_byte s (base_of a + off) v))))

-- the granule at base + off of a capability, or the denial
abbrev pub at_granule : Result ℕ MachineFault → (ℕ → Effect) → Effect
at_granule (Err f) k = denied f
at_granule (Ok g) k = k g

-- putc c r off s: the capability of s is stored at base + off
abbrev pub putc_rule : State → ℕ → ℕ → ℕ → ℕ → Effect
putc_rule s c r off t =
    unless (is_register c r && (is_register c t && is_operand off)) BadNum
    (held (register_at s c r) λ a.
    held (register_at s c t) λ b.
    unless (allows (permissions_of a) Store && allows (permissions_of a) Capabilities) Perm
    (at_granule (granule_answer a off) λ g.
    by_memory (capability_stored s.bytes s.tags g (base_of b) (top_of b) (permissions_of b)) λ _.
    accepted 0 (with_capability s g b)))

-- getc c r off s: the capability at base + off is loaded into s, unless a sweep is open and its base is painted
abbrev pub is_revoked : Sweep → List Run → Capability → Bool
is_revoked Idle rs b = false
is_revoked (Open n) rs b = in_runs rs (base_of b / 16)

abbrev pub loaded : State → ℕ → ℕ → Option Capability → Effect
loaded s c t None = denied NoCap
loaded s c t (Some b) = unless (not (is_revoked s.sweep s.painted b)) (Quarantine Q.Revoked) (accepted 0 (with_register s c t (Some b)))

abbrev pub getc_rule : State → ℕ → ℕ → ℕ → ℕ → Effect
getc_rule s c r off t =
    unless (is_register c r && (is_register c t && is_operand off)) BadNum
    (held (register_at s c r) λ a.
    unless (allows (permissions_of a) Load && allows (permissions_of a) Capabilities) Perm
    (at_granule (granule_answer a off) λ g.
    by_memory (granule_read s.bytes s.tags g) λ x.
    unless x.tagged NoCap
    (loaded s c t (capability_of x.numbers.base x.numbers.top x.numbers.permissions))))

-- give c r d s: register r of c is copied to the empty register s of d
abbrev pub give_rule : State → ℕ → ℕ → ℕ → ℕ → Effect
give_rule s c r d t =
    unless (is_register c r && is_register d t) BadNum
    (held (register_at s c r) λ a.
    unless (allows (permissions_of a) Give) Perm
    (vacant (register_at s d t) (accepted 0 (with_register s d t (Some a)))))

-- drop c r: register r is emptied
abbrev pub drop_rule : State → ℕ → ℕ → Effect
drop_rule s c r = unless (is_register c r) BadNum (accepted 0 (with_register s c r None))

-- free c r: the run of r, which has to be whole and not to wait already, joins the end of the waiting list; its base address is answered
abbrev pub is_whole : State → Capability → Bool
is_whole s a = base_of a % 16 == 0 && length_of a == 16 * run_length s.cells (base_of a / 16)

abbrev pub run_under : State → Capability → Run
run_under s a = record { start = base_of a / 16; length = run_length s.cells (base_of a / 16) }

abbrev pub free_rule : State → ℕ → ℕ → Effect
free_rule s c r =
    unless (is_register c r) BadNum
    (held (register_at s c r) λ a.
    unless (allows (permissions_of a) Own) Perm
    (unless (is_whole s a) NotWhole
    (unless (not (begins_at s.waiting (base_of a / 16))) (Quarantine Q.Freed)
    (unless (nat_lt (length s.waiting + length s.painted) most_runs) (Quarantine Q.QFull)
    (accepted (base_of a) (with_waiting s (run_under s a)))))))

-- open: the waiting runs are painted; their number is answered
abbrev pub open_rule : State → Sweep → Effect
open_rule s (Open n) = denied (Quarantine Q.Open)
open_rule s Idle = unless (nat_lt 0 (length s.waiting)) (Quarantine Q.Idle) (accepted (length s.waiting) (with_painted s))

-- step k: the next k granules are passed, and once all are the sweep ends; the granules left are answered
abbrev pub stepped : ℕ → State → ℕ → Sweep → Effect
stepped all s k Idle = denied (Quarantine Q.NoSweep)
stepped all s k (Open p) =
    cond (nat_le all (p + k)) (accepted 0 (with_ended (with_passed s p (all - p)))) (accepted (all - (p + k)) (with_passed s p k))

abbrev pub step_rule : Fixed → State → ℕ → Effect
step_rule K s k = unless (is_operand k && nat_lt 0 k) BadNum (stepped K.memory_granules s k s.sweep)

-- shut: the painted runs wait again; their number is answered
abbrev pub shut_rule : State → Sweep → Effect
shut_rule s Idle = denied (Quarantine Q.NoSweep)
shut_rule s (Open p) = accepted (length s.painted) (with_shut s)

-- what each call comes to
abbrev pub perform : Fixed → State → Call → Effect
perform K s (Call.Grant c r n) = grant_rule K s c r n
perform K s (Call.Free c r) = free_rule s c r
perform K s (Call.Derive c r t lo len p) = derive_rule s c r t lo len p
perform K s (Call.Getb c r off) = getb_rule s c r off
perform K s (Call.Putb c r off v) = putb_rule s c r off v
perform K s (Call.Putc c r off t) = putc_rule s c r off t
perform K s (Call.Getc c r off t) = getc_rule s c r off t
perform K s (Call.Give c r d t) = give_rule s c r d t
perform K s (Call.Drop c r) = drop_rule s c r
perform K s Call.OpenSweep = open_rule s s.sweep
perform K s (Call.Step k) = step_rule K s k
perform K s Call.Shut = shut_rule s s.sweep

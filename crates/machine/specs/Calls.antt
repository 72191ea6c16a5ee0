-- The twelve calls of a history: those of compartments, and those of the host.
use Rattle.std.specs.Prelude.{ℕ}
use Rattle.call.specs.declared.Call.{Call as TheCall}
use Rattle.call.specs.declared.Call.TheVariants as T

pub data Call : Type 0 where
  Grant : (c r n : ℕ) → Call
  Free : (c r : ℕ) → Call
  Derive : (c r s lo len p : ℕ) → Call
  Getb : (c r off : ℕ) → Call
  Putb : (c r off v : ℕ) → Call
  Putc : (c r off s : ℕ) → Call
  Getc : (c r off s : ℕ) → Call
  Give : (c r d s : ℕ) → Call
  Drop : (c r : ℕ) → Call
  OpenSweep : Call
  Step : (k : ℕ) → Call
  Shut : Call

-- a call that the machine runs today, as one of the twelve
abbrev pub call_of : TheCall → Call
call_of (T.Grant c r n) = Grant c r n
call_of (T.Derive c r s lo len p) = Derive c r s lo len p
call_of (T.Getb c r off) = Getb c r off
call_of (T.Putb c r off v) = Putb c r off v
call_of (T.Putc c r off s) = Putc c r off s
call_of (T.Getc c r off s) = Getc c r off s
call_of (T.Give c r d s) = Give c r d s
call_of (T.Drop c r) = Drop c r

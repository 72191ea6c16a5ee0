-- The model of the quarantine: which runs are painted, which wait, and the sweep; and what each call makes of them.
use Rattle.std.specs.Prelude.{ℕ, ◌+◌, ◌-◌, cond, List, [], ◌++◌, length, take, drop, Ok, Err, Result, nat_le, nat_lt}
use Rattle.quarantine.specs.Runs.{begins_at, most_runs}
use Rattle.quarantine.specs.declared.Quarantine.{Quarantine}
use Rattle.quarantine.specs.declared.fault.QuarantineFault.{QuarantineFault}
use Rattle.quarantine.specs.declared.fault.QuarantineFault.TheVariants as F
use Rattle.quarantine.specs.declared.run.Run.{Run}
use Rattle.quarantine.specs.declared.sweep.HostCall.{HostCall}
use Rattle.quarantine.specs.declared.sweep.HostCall.TheVariants as H
use Rattle.quarantine.specs.declared.sweep.Sweep.{Sweep}
use Rattle.quarantine.specs.declared.sweep.Sweep.TheVariants.{Idle, Open}
use Rattle.quarantine.specs.declared.sweep.Turn.{Turn}
use Rattle.quarantine.specs.declared.sweep.Turn.TheVariants as T

-- the runs that the open sweep has painted, and those that wait for the next
abbrev pub painted_of : Quarantine → List Run
painted_of q = take q.counts.painted q.runs

abbrev pub waiting_of : Quarantine → List Run
waiting_of q = drop q.counts.painted (take q.counts.held q.runs)

-- freeing a run: FREED if a waiting run begins where it does, QFULL if 64 are held
abbrev pub join_answer : List Run → List Run → ℕ → Result Unit QuarantineFault
join_answer waiting painted b =
    cond (begins_at waiting b) (Err F.Freed) (cond (nat_le most_runs (length waiting + length painted)) (Err F.QFull) (Ok tt))

-- what the host's calls change
pub record Kept : Type 0 where
  pub painted : List Run
  pub waiting : List Run
  pub sweep : Sweep

abbrev pub kept_of : Quarantine → Kept
kept_of q = record { painted = painted_of q; waiting = waiting_of q; sweep = q.sweep }

-- a sweep opens: the waiting runs are painted
abbrev pub with_opened : Kept → Kept
with_opened s = record { painted = s.waiting; waiting = []; sweep = Open 0 }

-- p granules are passed
abbrev pub with_passed : Kept → ℕ → Kept
with_passed s p = record { painted = s.painted; waiting = s.waiting; sweep = Open p }

-- a sweep ends: the painted runs are gone
abbrev pub with_finished : Kept → Kept
with_finished s = record { painted = []; waiting = s.waiting; sweep = Idle }

-- a sweep is shut: the painted runs wait again, before the others
abbrev pub with_shut : Kept → Kept
with_shut s = record { painted = []; waiting = s.painted ++ s.waiting; sweep = Idle }

-- open: denied if a sweep is open or no run waits
abbrev pub open_answer : Sweep → Kept → Result Turn QuarantineFault
open_answer (Open p) s = Err F.Open
open_answer Idle s = cond (nat_lt 0 (length s.waiting)) (Ok (T.Opened (length s.waiting))) (Err F.Idle)

abbrev pub after_open : Sweep → Kept → Kept
after_open (Open p) s = s
after_open Idle s = cond (nat_lt 0 (length s.waiting)) (with_opened s) s

-- a step of k granules over a memory of so many: the last step changes nothing yet
abbrev pub step_answer : Sweep → ℕ → ℕ → Result Turn QuarantineFault
step_answer Idle k all = Err F.NoSweep
step_answer (Open p) k all = cond (nat_le all (p + k)) (Ok (T.Ending p)) (Ok (T.Passing p (all - (p + k))))

abbrev pub after_step : Sweep → ℕ → ℕ → Kept → Kept
after_step Idle k all s = s
after_step (Open p) k all s = cond (nat_le all (p + k)) s (with_passed s (p + k))

-- shut: denied if no sweep is open
abbrev pub shut_answer : Sweep → Kept → Result Turn QuarantineFault
shut_answer Idle s = Err F.NoSweep
shut_answer (Open p) s = Ok (T.Shut (length s.painted))

abbrev pub after_shut : Sweep → Kept → Kept
after_shut Idle s = s
after_shut (Open p) s = with_shut s

-- what a call of the host's answers, and what it leaves
abbrev pub turn_answer : HostCall → ℕ → Kept → Result Turn QuarantineFault
turn_answer H.Open all s = open_answer s.sweep s
turn_answer (H.Step k) all s = step_answer s.sweep k all
turn_answer H.Shut all s = shut_answer s.sweep s

abbrev pub after_turn : HostCall → ℕ → Kept → Kept
after_turn H.Open all s = after_open s.sweep s
after_turn (H.Step k) all s = after_step s.sweep k all s
after_turn H.Shut all s = after_shut s.sweep s

-- What a fault of the quarantine is: its denial.
use Rattle.denial.specs.declared.Denial.{Denial}
use Rattle.denial.specs.declared.Denial.TheVariants as D
use Rattle.quarantine.specs.declared.fault.QuarantineFault.{QuarantineFault}
use Rattle.quarantine.specs.declared.fault.QuarantineFault.TheVariants.{Revoked, Freed, QFull, Open, NoSweep, Idle}

abbrev pub quarantine_denial : QuarantineFault → Denial
quarantine_denial Revoked = D.Revoked
quarantine_denial Freed = D.Freed
quarantine_denial QFull = D.QFull
quarantine_denial Open = D.Open
quarantine_denial NoSweep = D.NoSweep
quarantine_denial Idle = D.Idle

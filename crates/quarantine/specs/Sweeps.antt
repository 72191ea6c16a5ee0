-- The sweep at rest.
use Rattle.std.specs.Prelude.{ℕ, Bool, true, ◌==◌}
use Rattle.quarantine.specs.declared.sweep.Sweep.{Sweep}
use Rattle.quarantine.specs.declared.sweep.Sweep.TheVariants.{Idle, Open}

-- an idle sweep has painted no run
abbrev pub is_at_rest : Sweep → ℕ → Bool
is_at_rest Idle painted = painted == 0
is_at_rest (Open p) painted = true

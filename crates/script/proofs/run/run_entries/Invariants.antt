use Rattle.std.proofs.Common.{◌≡◌, ◌≤◌, length, take, vec_items, vec_len, vec_capacity}
use Rattle.script.specs.Runs.{outcomes_of, state_of}
use Rattle.script.proofs.run.run_entries.Given as goal

abbrev pub invariant-loop-entry : goal.invariant-loop-entry
invariant-loop-entry g l = record {
  room : length l.entries ≤ vec_capacity l.outcomes;
  count : vec_len l.outcomes ≡ l.entry-index;
  fixed : g.C.CompartmentMachine.fixed l.machine ≡ g.C.CompartmentMachine.fixed l.initial.machine;
  outcomes : vec_items l.outcomes ≡ outcomes_of (g.C.CompartmentMachine.fixed l.initial.machine) (g.C.CompartmentMachine.state l.initial.machine) (take l.entry-index l.entries);
  state : g.C.CompartmentMachine.state l.machine ≡ state_of (g.C.CompartmentMachine.fixed l.initial.machine) (g.C.CompartmentMachine.state l.initial.machine) (take l.entry-index l.entries);
}

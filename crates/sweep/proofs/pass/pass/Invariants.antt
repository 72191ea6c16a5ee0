use Rattle.std.proofs.Common.{◌≡◌, ◌-◌}
use Rattle.quarantine.specs.Kept.{painted_of}
use Rattle.sweep.specs.Sweeping.{swept_tags}
use Rattle.sweep.proofs.pass.pass.Given as goal

abbrev pub invariant-loop-g : goal.invariant-loop-g
invariant-loop-g g l = record {
  bytes : g.M.TaggedMemory.bytes l.memory ≡ g.M.TaggedMemory.bytes l.initial.memory;
  tags :
      g.M.TaggedMemory.tags l.memory
      ≡ swept_tags (painted_of l.quarantine) (g.M.TaggedMemory.bytes l.initial.memory) l.from (l.g - l.from) (g.M.TaggedMemory.tags l.initial.memory);
}

use Rattle.std.proofs.Common.{◌≡◌, length, drop}
use Rattle.quarantine.specs.Kept.{painted_of}
use Rattle.sweep.specs.Sweeping.{wiped_bytes, wiped_tags}
use Rattle.sweep.proofs.ending.wipe_painted.Given as goal

abbrev pub invariant-loop-run : goal.invariant-loop-run
invariant-loop-run g l =
    let all = length (g.M.TaggedMemory.tags l.initial.memory) in
    let rs = painted_of l.quarantine in record {
      size : length (g.M.TaggedMemory.tags l.memory) ≡ all;
      bytes : wiped_bytes all (drop l.run-index rs) (g.M.TaggedMemory.bytes l.memory) ≡ wiped_bytes all rs (g.M.TaggedMemory.bytes l.initial.memory);
      tags : wiped_tags (drop l.run-index rs) (g.M.TaggedMemory.tags l.memory) ≡ wiped_tags rs (g.M.TaggedMemory.tags l.initial.memory);
    }

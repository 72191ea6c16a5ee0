use Rattle.std.proofs.Common.{◌≡◌, length, take}
use Rattle.bits.specs.Bits.{bits_of}
use Rattle.quarantine.specs.Runs.{shadow_of}
use Rattle.quarantine.proofs.shade.shade.Given as goal

abbrev pub invariant-loop-run : goal.invariant-loop-run
invariant-loop-run l = record {
  size : length l.shadow ≡ 128;
  shaded : bits_of l.shadow ≡ shadow_of (take l.run-index l.runs);
}

use Rattle.std.proofs.Common.{◌≡◌, ◌-◌, ◌≤◌, replicate}
use lib.Seq.{paste}
use Rattle.bits.specs.Bits.{bits_of}
use Rattle.bits.proofs.fill.Given as goal

abbrev pub invariant-loop-g : goal.invariant-loop-g
invariant-loop-g l =
    (bits_of l.bits ≡ paste (bits_of l.initial.bits) l.from (replicate (l.g - l.from) l.on) (l.g - l.from))
    × (l.g - l.from ≤ l.end - l.from)

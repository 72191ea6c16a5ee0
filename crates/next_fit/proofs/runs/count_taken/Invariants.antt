use Rattle.std.proofs.Common.{◌≡◌, ◌*◌, ◌≤◌, false, count_by, get_or}
use Rattle.std.specs.List.{range_with_len}
use Rattle.bits.specs.Bits.{bits_of}
use Rattle.next_fit.proofs.runs.count_taken.Given as goal

-- the number so far is that of the bytes so far
abbrev pub invariant-loop-byte : goal.invariant-loop-byte
invariant-loop-byte l =
    (l.taken ≤ 8 * l.byte-index)
    × (l.taken ≡ count_by (λ g. get_or (bits_of l.used) g false) (range_with_len 0 (8 * l.byte-index)))

use Rattle.std.proofs.Common.{◌≡◌, ◌≤◌, drop, Some}
use Rattle.reader.proofs.Numbers.{counted}
use Rattle.reader.proofs.number.read_number.Given as goal

-- the digits to come, after the number so far, come to what the whole word comes to
abbrev pub invariant-loop-byte : goal.invariant-loop-byte
invariant-loop-byte l = (l.number ≤ 65535) × (counted (Some l.number) (drop l.byte-index l.text) ≡ counted (Some 0) l.text)

use Rattle.std.proofs.Common.{◌≡◌, ◌≤◌, drop, Some}
use Rattle.reader.proofs.Spelling.{spelled}
use Rattle.reader.proofs.letters.read_permissions.Given as goal

-- the letters to come, after the permissions so far, come to what the whole word comes to
abbrev pub invariant-loop-byte : goal.invariant-loop-byte
invariant-loop-byte l = (l.permissions ≤ 31) × (spelled (Some l.permissions) (drop l.byte-index l.text) ≡ spelled (Some 0) l.text)

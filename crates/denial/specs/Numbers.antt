-- The numbers of the denials and the letters of the layers, as they are printed.
use Rattle.std.specs.Prelude.{ℕ}
use Rattle.denial.specs.declared.Denial.{Denial}
use Rattle.denial.specs.declared.Denial.TheVariants.{BadNum, Empty, Perm, Bounds, Align, NoCap, Revoked, NotWhole, Freed, QFull, Allowance, NoRun, Nothing, FullReg, Open, NoSweep, Idle, Text, Sizes}
use Rattle.denial.specs.declared.Layer.{Layer}
use Rattle.denial.specs.declared.Layer.TheVariants.{Memory, Machine, Quarantine, Allocator, Reader}

-- the number of a denial
abbrev pub number_of : Denial → ℕ
number_of BadNum = 1
number_of Empty = 2
number_of Perm = 3
number_of Bounds = 4
number_of Align = 5
number_of NoCap = 6
number_of Revoked = 7
number_of NotWhole = 8
number_of Freed = 9
number_of QFull = 10
number_of Allowance = 11
number_of NoRun = 12
number_of Nothing = 13
number_of FullReg = 14
number_of Open = 15
number_of NoSweep = 16
number_of Idle = 17
number_of Text = 18
number_of Sizes = 19

-- the letter of a layer: T, M, Q, A or R
abbrev pub letter_of : Layer → ℕ
letter_of Memory = 84
letter_of Machine = 77
letter_of Quarantine = 81
letter_of Allocator = 65
letter_of Reader = 82

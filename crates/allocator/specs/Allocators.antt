-- What an allocator answers, and the map and mark that it has then.
use Rattle.std.specs.Prelude.{ℕ, ◌+◌, cond, List, replicate, Some, None, Ok, Err, Option, Result, ◌==◌, nat_lt}
use Rattle.std.proofs.Math.Seq.{paste}
use Rattle.allocator.specs.declared.fault.AllocatorFault.{AllocatorFault}
use Rattle.allocator.specs.declared.fault.AllocatorFault.TheVariants.{BadNum, Allowance, NoRun, NotWhole}
use Rattle.allocator.specs.declared.cell.Cell.{Cell}
use Rattle.allocator.specs.declared.cell.Cell.TheVariants.{Free}
use Rattle.allocator.specs.Maps.{taken_in, run_length, run_of, Rule}

-- an answer, with the map and the mark after it
pub record Allocation : Type 0 where
  pub answer : Result ℕ AllocatorFault
  pub cells : List Cell
  pub mark : ℕ

abbrev pub denied_by : List Cell → ℕ → AllocatorFault → Allocation
denied_by cs m f = record { answer = Err f; cells = cs; mark = m }

-- n granules at the place that a rule answers: its base becomes first, the others rest, and the mark moves
abbrev pub placed : List Cell → ℕ → ℕ → Option (ℕ × ℕ) → Allocation
placed cs m n None = denied_by cs m NoRun
placed cs m n (Some x) = record { answer = Ok x.0; cells = paste cs x.0 (run_of n) n; mark = x.1 }

-- whether n granules may be allocated: some, and at most `most` together with those that are taken
abbrev pub admitting : List Cell → ℕ → ℕ → Result (Unit {0}) AllocatorFault
admitting cs most n = cond (n == 0) (Err BadNum) (cond (nat_lt most (taken_in cs + n)) (Err Allowance) (Ok tt))

-- allocate n granules
abbrev pub allocating : Rule → List Cell → ℕ → ℕ → ℕ → Allocation
allocating place cs m most n =
    cond (n == 0) (denied_by cs m BadNum) (cond (nat_lt most (taken_in cs + n)) (denied_by cs m Allowance) (placed cs m n (place cs m n)))

-- release the run at granule b: it becomes free, the mark stays, and its length is answered
abbrev pub releasing : List Cell → ℕ → ℕ → Allocation
releasing cs m b =
    cond (nat_lt 0 (run_length cs b)) (record { answer = Ok (run_length cs b); cells = paste cs b (replicate (run_length cs b) Free) (run_length cs b); mark = m }) (denied_by cs m NotWhole)

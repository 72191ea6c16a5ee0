-- The lines of a script, and what a script reads as.
use Rattle.std.specs.Prelude.{◌≡◌, ℕ, ◌+◌, ◌<◌, ◌≤◌, cond, List, [], ◌∷◌, length, Ok, Err, vec_items, Result, Vec, ◌==◌}
use Rattle.reader.specs.declared.script.Entry.{Entry}
use Rattle.reader.specs.declared.script.ReadError.{ReadError}
use Rattle.reader.specs.declared.script.ReadError.TheVariants.{TooLong, Memory}
use Rattle.reader.specs.Lines.{onto_first, Reads}

-- the lines of a script: what stands before each byte 10, and what follows the last one if anything does
abbrev pub lines_of : List ℕ → List (List ℕ)
lines_of [] = []
lines_of (c ∷ cs) = cond (c == 10) ([] ∷ lines_of cs) (onto_first c (lines_of cs))

-- a line with its number
pub record NumberedLine : Type 0 where
  pub number : ℕ
  pub bytes : List ℕ

-- the lines that are not empty, where the first line of all has this number
abbrev pub numbered_from : ℕ → List (List ℕ) → List NumberedLine
numbered_from n [] = []
numbered_from n ([] ∷ ls) = numbered_from (n + 1) ls
numbered_from n ((c ∷ cs) ∷ ls) = record { number = n; bytes = c ∷ cs } ∷ numbered_from (n + 1) ls

-- the lines of a script that are not empty, counted from 1
abbrev pub numbered_lines : List ℕ → List NumberedLine
numbered_lines script = numbered_from 1 (lines_of script)

-- one entry for each line, with its number and what it reads as
abbrev pub Readings : List NumberedLine → List Entry → Type 0
Readings [] [] = Unit {0}
Readings [] (e ∷ es) = ⊥
Readings (l ∷ ls) [] = ⊥
Readings (l ∷ ls) (e ∷ es) = (e.line ≡ l.number) × Reads l.bytes l.number e.reading × Readings ls es

-- what a script reads as: it is too long exactly if it has more than 32,768 bytes
abbrev pub ReadsScript : {Z : Type 0} → List ℕ → Result (Vec Entry Z) ReadError → Type 0
ReadsScript script (Ok v) = (length script ≤ 32768) × Readings (numbered_lines script) (vec_items v)
ReadsScript script (Err TooLong) = 32768 < length script
ReadsScript script (Err (Memory e)) = length script ≤ 32768

-- The texts of operands, and what a word reads as.
use Rattle.std.specs.Prelude.{◌≡◌, ℕ, ◌/◌, ◌%◌, ◌≤◌, cond, List, [], ◌∷◌, Some, None, codes, Option, ◌==◌, ◌≢◌}

-- the letters whose bits are set, the first letter for the lowest bit
abbrev pub letters_from : List ℕ → ℕ → List ℕ
letters_from [] p = []
letters_from (l ∷ ls) p = cond (p % 2 == 1) (l ∷ letters_from ls (p / 2)) (letters_from ls (p / 2))

-- the text of a permission number: its letters in the order r w c g o, or - for none
abbrev pub letters_of : ℕ → List ℕ
letters_of p = cond (p == 0) (codes "-") (letters_from (codes "rwcgo") p)

-- what a word reads as: the number up to a greatest one whose text it is, or none if there is no such number
abbrev pub ReadsAs : (ℕ → List ℕ) → ℕ → List ℕ → Option ℕ → Type 0
ReadsAs text greatest word (Some n) = (n ≤ greatest) × (word ≡ text n)
ReadsAs text greatest word None = (n : ℕ) → n ≤ greatest → word ≢ text n

-- The model of a flat memory over buffers of fitting sizes.
use Rattle.std.proofs.Common.{◌≡◌, ℕ, ◌/◌, Bool, true, false, cond, List, length, Ok, Err, refl, sym, ◌∙◌}
use Rattle.bits.specs.Bits.{length_bits}
use Rattle.memory.specs.Flats.{GranulesOf, fits_for, sizes_checked, sizes_fit}
use Rattle.memory.specs.declared.fault.MemoryFault.TheVariants.{Sizes}

-- buffers of fitting sizes have a sixteenth of the data's size as their number of granules
pub granules_fit : (bs ts : List ℕ) → sizes_fit (length bs) (length ts) ≡ true → GranulesOf bs ts (length bs / 16)
granules_fit bs ts e =
    let f = fits_for (length bs / 16) (length bs) (length ts) e in
    record {
      count = rw e (sym (length_bits ts ∙ f.bits));
      room = rw e f.whole;
      few = f.few;
      fit = λ _. e;
      data_size = λ _. f.whole;
      tags_size = λ _. f.bits;
    }

-- sizes that were checked fit
checked : (t : Bool) (m n : ℕ) → Ok n ≡ cond t (Ok m) (Err Sizes) → (t ≡ true) × (n ≡ m)
checked true m n e = (refl, cc)
checked false m n e = absurd cc

-- the number of granules that a check of the sizes gave, over buffers of the same sizes
pub granules_checked : (bs ts xs ys : List ℕ) (n : ℕ) → Ok n ≡ sizes_checked (length xs) (length ys) → length bs ≡ length xs → length ts ≡ length ys → GranulesOf bs ts n
granules_checked bs ts xs ys n e hb ht =
    let f = checked (sizes_fit (length xs) (length ys)) (length xs / 16) n e in
    rw (f.1, ← hb) (granules_fit bs ts (rw (hb, ht) f.0))

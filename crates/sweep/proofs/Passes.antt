-- Passing granules one after another, and none past the last.
use Rattle.std.proofs.Common.{◌≡◌, ℕ, zero, suc, ◌+◌, ◌-◌, ◌<◌, ◌≤◌, Bool, true, false, cond, List, length, set, sym, refl, ap, ◌∙◌, zero-add, suc-add, arith}
use Rattle.std.proofs.lemmas.List.{get_or_past, length-set}
use Rattle.quarantine.specs.declared.run.Run.{Run}
use Rattle.sweep.specs.Sweeping.{is_stale, swept_tag, swept_tags}

-- passing granule g after those from p up to it
pub swept_more : (rs : List Run) (bs : List ℕ) (p g : ℕ) (ts : List Bool) → p ≤ g → swept_tags rs bs p (g + 1 - p) ts ≡ swept_tag rs bs g (swept_tags rs bs p (g - p) ts)
swept_more rs bs p g ts h =
    let next : g + 1 - p ≡ suc (g - p) = omega arith in
    let at : p + (g - p) ≡ g = omega arith in
    ap (λ n. swept_tags rs bs p n ts) next ∙ ap (λ n. swept_tag rs bs n (swept_tags rs bs p (g - p) ts)) at

length_one : (rs : List Run) (bs : List ℕ) (g : ℕ) (ts : List Bool) → length (swept_tag rs bs g ts) ≡ length ts
length_one rs bs g ts =
    elim (is_stale rs bs g ts) as (λ b. length (cond b (set ts g false) ts) ≡ length ts) [
      | true ↦ length-set ts g false
      | false ↦ refl
    ]

length_swept : (rs : List Run) (bs : List ℕ) (p k : ℕ) (ts : List Bool) → length (swept_tags rs bs p k ts) ≡ length ts
length_swept rs bs p zero ts = refl
length_swept rs bs p (suc k) ts = length_one rs bs (p + k) (swept_tags rs bs p k ts) ∙ length_swept rs bs p k ts

-- past the last granule a pass changes nothing
swept_past : (rs : List Run) (bs : List ℕ) (g : ℕ) (ts : List Bool) → length ts ≤ g → swept_tag rs bs g ts ≡ ts
swept_past rs bs g ts h = rw (get_or_past ts g false h)

-- d more granules past the last
swept_beyond : (rs : List Run) (bs : List ℕ) (p k d : ℕ) (ts : List Bool) → length ts ≤ p + k → swept_tags rs bs p (d + k) ts ≡ swept_tags rs bs p k ts
swept_beyond rs bs p k zero ts h = rw zero-add
swept_beyond rs bs p k (suc d) ts h =
    let size = length_swept rs bs p (d + k) ts in
    rw suc-add (swept_past rs bs (p + (d + k)) (swept_tags rs bs p (d + k) ts) (omega arith) ∙ swept_beyond rs bs p k d ts h)

-- a pass that goes past the last granule changes what one up to it changes
pub swept_there : (rs : List Run) (bs : List ℕ) (p k : ℕ) (ts : List Bool) → length ts < p + k → swept_tags rs bs p k ts ≡ swept_tags rs bs p (length ts - p) ts
swept_there rs bs p k ts h =
    let n = length ts - p in
    let whole : (k - n) + n ≡ k = omega arith in
    ap (λ m. swept_tags rs bs p m ts) (sym whole) ∙ swept_beyond rs bs p n (k - n) ts (omega arith)

-- What a sweep over painted runs does to tags, bytes and the allocator's map.
use Rattle.std.specs.Prelude.{ℕ, zero, suc, ◌+◌, ◌*◌, ◌/◌, Bool, false, cond, ◌&&◌, List, [], ◌∷◌, length, replicate, is_ok, slice_index_or, slice_set}
use Rattle.std.proofs.Math.Seq.{paste}
use Rattle.allocator.specs.Allocators.{releasing}
use Rattle.allocator.specs.declared.cell.Cell.{Cell}
use Rattle.authority.specs.Images.{word_at}
use Rattle.memory.specs.Memories.{wipe_answer}
use Rattle.quarantine.specs.Runs.{in_runs}
use Rattle.quarantine.specs.declared.run.Run.{Run}

-- granule g is tagged and the base stored there is painted
abbrev pub is_stale : List Run → List ℕ → ℕ → List Bool → Bool
is_stale rs bs g ts = slice_index_or ts g false && in_runs rs (word_at bs (16 * g) / 16)

-- passing granule g: a tag is cleared if the base stored there is painted
abbrev pub swept_tag : List Run → List ℕ → ℕ → List Bool → List Bool
swept_tag rs bs g ts = cond (is_stale rs bs g ts) (slice_set ts g false) ts

-- passing k granules from p on
abbrev pub swept_tags : List Run → List ℕ → ℕ → ℕ → List Bool → List Bool
swept_tags rs bs p zero ts = ts
swept_tags rs bs p (suc k) ts = swept_tag rs bs (p + k) (swept_tags rs bs p k ts)

-- wiping runs of a memory of so many granules, one after another: the bytes
abbrev pub wiped_bytes : ℕ → List Run → List ℕ → List ℕ
wiped_bytes all [] bs = bs
wiped_bytes all (r ∷ rs) bs =
    wiped_bytes all rs (cond (is_ok (wipe_answer r.start r.length all)) (paste bs (16 * r.start) (replicate (16 * r.length) 0) (16 * r.length)) bs)

-- wiping runs, one after another: the tags
abbrev pub wiped_tags : List Run → List Bool → List Bool
wiped_tags [] ts = ts
wiped_tags (r ∷ rs) ts =
    wiped_tags rs (cond (is_ok (wipe_answer r.start r.length (length ts))) (paste ts r.start (replicate r.length false) r.length) ts)

-- releasing runs, one after another
abbrev pub released_cells : List Run → List Cell → List Cell
released_cells [] cs = cs
released_cells (r ∷ rs) cs = released_cells rs (releasing cs 0 r.start).cells

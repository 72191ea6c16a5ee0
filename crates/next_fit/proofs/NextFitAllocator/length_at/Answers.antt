use Rattle.std.proofs.Common.{◌-◌, ◌+◌, arith}
use Rattle.next_fit.specs.Bitmaps.{map_of}
use Rattle.next_fit.proofs.Counts.{counted}
use Rattle.next_fit.proofs.Lengths.{first_inside, first_same, rests_range, rests_within, run_start}
use Rattle.next_fit.proofs.NextFitAllocator.length_at.Goals as goal

pub overflow_add-result : goal.overflow_add-result
overflow_add-result c =
    let s = c.args.self.now in
    let few = rests_within (map_of s.used.now s.firsts.now) (c.args.b + 1) (s.granules - (c.args.b + 1)) in
    grind (arith, counted)

pub returns : goal.returns
returns c =
    let s = c.args.self.now in
    let cs = map_of s.used.now s.firsts.now in
    let b = c.args.b in
    let all = counted s.used.now s.firsts.now s.granules s.sized in
    let inside = first_inside cs b (grind (arith, first_same)) in
    let few = rests_within cs (b + 1) (s.granules - (b + 1)) in
    let same = rests_range cs (b + 1) (s.granules - (b + 1)) (omega arith) in
    record { within = λ h. omega arith; value = grind (arith, first_same, run_start) }

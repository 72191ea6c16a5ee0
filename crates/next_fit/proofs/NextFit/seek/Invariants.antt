use Rattle.std.proofs.Common.{◌≡◌, ◌-◌, true, map}
use Rattle.next_fit.specs.Bitmaps.{map_of}
use Rattle.next_fit.specs.Placement.{all_free, is_used, lowest_fit}
use Rattle.next_fit.proofs.NextFit.seek.Given as goal

-- from the candidate on the search answers what it answers from the start on
abbrev pub invariant-candidates : goal.invariant-candidates
invariant-candidates l =
    let us = map is_used (map_of l.self.used.now l.self.firsts.now) in
    lowest_fit us l.n l.b (l.self.granules - l.b) ≡ lowest_fit us l.n l.from (l.self.granules - l.from)

abbrev pub decreases-candidates : goal.decreases-candidates
decreases-candidates l = l.self.granules - l.b

-- the candidate is the same, and its granules so far are free
abbrev pub invariant-loop-i : goal.invariant-loop-i
invariant-loop-i l =
    (l.b ≡ l.initial.b) × (all_free (map is_used (map_of l.self.used.now l.self.firsts.now)) l.b l.i ≡ true)

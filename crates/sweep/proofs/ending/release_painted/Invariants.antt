use Rattle.std.proofs.Common.{◌≡◌, length, drop}
use Rattle.quarantine.specs.Kept.{painted_of}
use Rattle.sweep.specs.Sweeping.{released_cells}
use Rattle.sweep.proofs.ending.release_painted.Given as goal

abbrev pub invariant-loop-run : goal.invariant-loop-run
invariant-loop-run g l = record {
  cells : released_cells (drop l.run-index (painted_of l.quarantine)) (g.B.Allocator.cells l.allocator) ≡ released_cells (painted_of l.quarantine) (g.B.Allocator.cells l.initial.allocator);
  mark : g.B.Allocator.mark l.allocator ≡ g.B.Allocator.mark l.initial.allocator;
  most : g.B.Allocator.most l.allocator ≡ g.B.Allocator.most l.initial.allocator;
  size : length (g.B.Allocator.cells l.allocator) ≡ length (g.B.Allocator.cells l.initial.allocator);
}

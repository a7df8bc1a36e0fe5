-- the cells so far
use Rattle.std.proofs.Common.{◌≡◌}
use Rattle.edits.proofs.KeptLemmas.{line_cells}
use Rattle.edits.proofs.kept.cells_of_line.Given as goal

abbrev pub invariant-loop-position : goal.invariant-loop-position
invariant-loop-position l = l.cells.items ≡ line_cells l.picture l.line l.position

-- the cells so far
use Rattle.std.proofs.Common.{◌≡◌, take}
use Rattle.edits.specs.Note.{with_cells}
use Rattle.edits.proofs.cells.put_cells.Given as goal

abbrev pub invariant-loop-row : goal.invariant-loop-row
invariant-loop-row l = l.picture ≡ with_cells l.fn.picture (take l.row-index l.cells)

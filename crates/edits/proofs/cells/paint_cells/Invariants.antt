-- the cells so far
use Rattle.std.proofs.Common.{◌≡◌, map, take}
use Rattle.edits.specs.Note.{repainted, with_cells}
use Rattle.edits.proofs.cells.paint_cells.Given as goal

abbrev pub invariant-loop-row : goal.invariant-loop-row
invariant-loop-row l = l.picture ≡ with_cells l.fn.picture (take l.row-index (map (repainted l.edit) l.cells))

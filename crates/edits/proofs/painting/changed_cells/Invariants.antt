-- the cells of the rows so far, and those so far of this one
use Rattle.std.proofs.Common.{◌≡◌, ◌++◌}
use Rattle.edits.specs.Note.{changed_cell, changed_in_row, joined}
use Rattle.edits.proofs.painting.changed_cells.Given as goal

abbrev pub invariant-loop-row : goal.invariant-loop-row
invariant-loop-row l = l.cells.items ≡ joined (changed_in_row l.edit l.picture) l.row

abbrev pub invariant-loop-col : goal.invariant-loop-col
invariant-loop-col l = l.cells.items ≡ l.initial.cells.items ++ joined (changed_cell l.edit l.picture l.row) l.col

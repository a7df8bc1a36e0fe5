-- no cell changes in the rows so far, nor so far in this one
use Rattle.std.proofs.Common.{◌≡◌, []}
use Rattle.edits.specs.Note.{changed_cell, changed_in_row, joined}
use Rattle.edits.proofs.painting.changes_cells.Given as goal

abbrev pub invariant-loop-row : goal.invariant-loop-row
invariant-loop-row l = joined (changed_in_row l.edit l.picture) l.row ≡ []

abbrev pub invariant-loop-col : goal.invariant-loop-col
invariant-loop-col l = joined (changed_cell l.edit l.picture l.row) l.col ≡ []

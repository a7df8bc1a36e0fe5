use Rattle.std.proofs.Common.{◌≡◌}
use Rattle.picture.specs.Rows.{rows_of}
use Rattle.picture.proofs.GridLemmas.{edited, without_cell}
use Rattle.picture.proofs.line_edits.delete_column.Given as goal

abbrev pub invariant-loop-row : goal.invariant-loop-row
invariant-loop-row l = l.cells.items ≡ edited (without_cell l.at) l.row (rows_of l.height l.width l.fn.cells.items)

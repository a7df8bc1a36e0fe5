use Rattle.std.proofs.Common.{◌≡◌}
use Rattle.picture.specs.Rows.{rows_of}
use Rattle.picture.proofs.GridLemmas.{edited, with_exchange}
use Rattle.picture.proofs.line_edits.swap_columns.Given as goal

abbrev pub invariant-loop-row : goal.invariant-loop-row
invariant-loop-row l = l.cells ≡ edited (with_exchange l.i l.j) l.row (rows_of l.height l.width l.fn.cells)

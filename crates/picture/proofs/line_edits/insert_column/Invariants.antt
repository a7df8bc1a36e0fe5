use Rattle.std.proofs.Common.{◌≡◌}
use Rattle.picture.specs.Rows.{rows_of}
use Rattle.picture.proofs.GridLemmas.{joined, with_gap}
use Rattle.picture.proofs.line_edits.insert_column.Given as goal

abbrev pub invariant-loop-row : goal.invariant-loop-row
invariant-loop-row l = l.wider.items ≡ joined (with_gap l.at) l.row (rows_of l.height l.width l.fn.cells.items)

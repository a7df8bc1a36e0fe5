use Rattle.std.proofs.Common.{◌∙◌}
use Rattle.edits.proofs.CellLemmas.{fits_now, with_one_more}
use Rattle.edits.proofs.cells.put_cells.Goals as goal

pub set-requires-clause-in_rows : goal.set-requires-clause-in_rows
set-requires-clause-in_rows c =
    (fits_now c.args.picture.now c.loop-row.picture c.args.cells.now c.loop-row.row-index (0, 0, 0) c.requires.picture c.requires.cells c.loop-row-test.true c.loop-row.invariant).0

pub set-requires-clause-in_columns : goal.set-requires-clause-in_columns
set-requires-clause-in_columns c =
    (fits_now c.args.picture.now c.loop-row.picture c.args.cells.now c.loop-row.row-index (0, 0, 0) c.requires.picture c.requires.cells c.loop-row-test.true c.loop-row.invariant).1

pub loop-row-preserved : goal.loop-row-preserved
loop-row-preserved c = c.set.ensures ∙ with_one_more c.args.picture.now c.loop-row.picture c.args.cells.now c.loop-row.row-index (0, 0, 0) c.loop-row-test.true c.loop-row.invariant

use Rattle.std.proofs.Common.{◌∙◌, ap, get_or}
use Rattle.picture.specs.Rows.{with_cell}
use Rattle.edits.proofs.CellLemmas.{mapped_fits, with_one_painted}
use Rattle.edits.proofs.cells.paint_cells.Goals as goal

pub set-requires-clause-in_rows : goal.set-requires-clause-in_rows
set-requires-clause-in_rows c =
    (mapped_fits c.args.edit.now c.args.picture.now c.loop-row.picture c.args.cells.now c.loop-row.row-index (0, 0, 0) c.requires.picture c.requires.cells c.loop-row-test.true c.loop-row.invariant).0

pub set-requires-clause-in_columns : goal.set-requires-clause-in_columns
set-requires-clause-in_columns c =
    (mapped_fits c.args.edit.now c.args.picture.now c.loop-row.picture c.args.cells.now c.loop-row.row-index (0, 0, 0) c.requires.picture c.requires.cells c.loop-row-test.true c.loop-row.invariant).1

pub set-requires-clause-in_colours : goal.set-requires-clause-in_colours
set-requires-clause-in_colours c = rw c.colour_after.ensures
    (mapped_fits c.args.edit.now c.args.picture.now c.loop-row.picture c.args.cells.now c.loop-row.row-index (0, 0, 0) c.requires.picture c.requires.cells c.loop-row-test.true c.loop-row.invariant).2

pub loop-row-preserved : goal.loop-row-preserved
loop-row-preserved c =
    let at = get_or c.args.cells.now c.loop-row.row-index (0, 0, 0) in
    c.set.ensures
    ∙ (ap (with_cell c.loop-row.picture at.0 at.1) c.colour_after.ensures
    ∙ with_one_painted c.args.edit.now c.args.picture.now c.loop-row.picture c.args.cells.now c.loop-row.row-index (0, 0, 0) c.loop-row-test.true c.loop-row.invariant)

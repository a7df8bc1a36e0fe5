use Rattle.std.proofs.Common.{arith, [], ◌≡◌, ◌∙◌}
use Rattle.edits.specs.Note.{changed_in_row, joined}
use Rattle.edits.proofs.PaintLemmas.{row_before, row_ends_none, row_none_more, rows_begin, rows_end}
use Rattle.edits.proofs.painting.changes_cells.Goals as goal

pub loop-row-init : goal.loop-row-init
loop-row-init c = rows_begin _ _ _ _ _ _ c.area-area.ensures

pub loop-col-init : goal.loop-col-init
loop-col-init c = row_before _ _ _ _ _ _ c.area-area.ensures c.loop-row.row (omega (arith, c.area-area.ensures.rows_fit))

pub loop-row-preserved : goal.loop-row-preserved
loop-row-preserved c =
    row_none_more c.args.edit.now c.args.picture.now c.loop-row.row c.loop-row.invariant
    (row_ends_none _ _ _ _ _ _ c.area-area.ensures c.loop-row.row c.loop-col.col (omega (arith, c.area-area.ensures.rows_fit))
    (omega (arith, c.area-area.ensures.columns_ordered)) c.loop-col.invariant)

pub returns : goal.returns
returns c =
    let none : joined (changed_in_row c.args.edit.now c.args.picture.now) c.loop-row.row ≡ [] = c.loop-row.invariant in
    rows_end _ _ _ _ _ _ c.area-area.ensures c.loop-row.row (omega (arith, c.area-area.ensures.rows_ordered)) ∙ none

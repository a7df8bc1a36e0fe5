use Rattle.std.proofs.Common.{arith, sym, ◌∙◌}
use Rattle.edits.proofs.PaintLemmas.{row_begins, row_ends, row_more, rows_begin, rows_end}
use Rattle.edits.proofs.painting.changed_cells.Goals as goal

pub loop-row-init : goal.loop-row-init
loop-row-init c = c.new-cells.ensures.items ∙ sym (rows_begin _ _ _ _ _ _ c.area-area.ensures)

pub loop-col-init : goal.loop-col-init
loop-col-init c = row_begins _ _ _ _ _ _ c.area-area.ensures c.loop-row.row c.loop-row.cells.items (omega (arith, c.area-area.ensures.rows_fit))

pub loop-row-preserved : goal.loop-row-preserved
loop-row-preserved c =
    row_more c.args.edit.now c.args.picture.now c.loop-row.row c.loop-row.cells.items c.loop-col.cells.items c.loop-row.invariant
    (row_ends _ _ _ _ _ _ c.area-area.ensures c.loop-row.row c.loop-col.col c.loop-col.cells.items c.loop-row.cells.items (omega (arith, c.area-area.ensures.rows_fit))
    (omega (arith, c.area-area.ensures.columns_ordered)) c.loop-col.invariant)

pub returns : goal.returns
returns c = c.loop-row.invariant ∙ sym (rows_end _ _ _ _ _ _ c.area-area.ensures c.loop-row.row (omega (arith, c.area-area.ensures.rows_ordered)))

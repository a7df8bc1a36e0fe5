use Rattle.std.proofs.Common.{◌∙◌, arith}
use Rattle.picture.proofs.GridLemmas.{with_exchange, none_edited, all_edited, cells_exchanged}
use Rattle.picture.proofs.line_edits.swap_columns.Goals as goal

pub loop-row-init : goal.loop-row-init
loop-row-init c = none_edited c.args.height c.args.width c.args.cells.now c.requires.cells (with_exchange c.args.i c.args.j)

pub loop-row-preserved : goal.loop-row-preserved
loop-row-preserved c = grind (arith, cells_exchanged)

pub returns : goal.returns
returns c = c.loop-row.invariant ∙ all_edited c.args.height c.args.width c.args.cells.now c.requires.cells (with_exchange c.args.i c.args.j) c.loop-row.row (omega arith)

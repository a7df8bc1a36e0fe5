use Rattle.std.proofs.Common.{◌∙◌, arith}
use Rattle.picture.proofs.GridLemmas.{without_cell, none_edited, all_edited, cell_removed, place_of_removal}
use Rattle.picture.proofs.line_edits.delete_column.Goals as goal

pub loop-row-init : goal.loop-row-init
loop-row-init c = none_edited c.args.height c.args.width c.args.cells.now.items c.requires.cells (without_cell c.args.at)

pub remove-requires : goal.remove-requires
remove-requires c = grind (arith, place_of_removal)

pub loop-row-preserved : goal.loop-row-preserved
loop-row-preserved c = grind (arith, cell_removed)

pub returns : goal.returns
returns c = c.loop-row.invariant ∙ all_edited c.args.height c.args.width c.args.cells.now.items c.requires.cells (without_cell c.args.at) c.loop-row.row (omega arith)

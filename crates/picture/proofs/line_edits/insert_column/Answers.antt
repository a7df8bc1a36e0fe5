use Rattle.std.proofs.Common.{◌+◌, ◌-◌, ◌*◌, ◌++◌, take, drop, ◌∙◌, sym, ap, arith}
use Rattle.std.specs.List.{insert}
use Rattle.picture.proofs.GridLemmas.{with_gap, joined_none, all_joined, gap_pushed}
use Rattle.picture.proofs.line_edits.insert_column.Goals as goal

pub loop-row-init : goal.loop-row-init
loop-row-init c = c.in_ok-wider.ensures.items ∙ sym (joined_none (with_gap c.args.at) _)

pub loop-row-preserved : goal.loop-row-preserved
loop-row-preserved c = grind (arith, drop, gap_pushed, insert, take)

pub returns-clause-ok : goal.returns-clause-ok
returns-clause-ok c = c.loop-row.invariant ∙ all_joined c.args.height c.args.width c.args.cells.now.items c.requires.cells (with_gap c.args.at) c.loop-row.row (omega arith)

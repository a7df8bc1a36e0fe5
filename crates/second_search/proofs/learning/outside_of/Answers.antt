use Rattle.second_search.proofs.LearnLemmas.{none_off, row_put_outside}
use Rattle.second_search.proofs.learning.outside_of.Goals as goal

pub loop-row-init : goal.loop-row-init
loop-row-init c = none_off _ _ _ c.empty-outside.ensures.none

pub loop-row-preserved : goal.loop-row-preserved
loop-row-preserved c = row_put_outside c.args.cells.now c.loop-row.outside _ c.loop-row.row _ c.loop-row.invariant (rw c.width.ensures.value at c.put_outside.ensures)

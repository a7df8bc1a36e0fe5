use Rattle.std.proofs.Common.{rules}
use Rattle.fixpoint.proofs.OrderLemmas.{above_put, nothing_above}
use Rattle.fixpoint.proofs.newest_first.NewestFirst.put_along.Goals as goal

pub loop-at-init : goal.loop-at-init
loop-at-init c = (search rules, nothing_above _)

pub loop-at-preserved : goal.loop-at-preserved
loop-at-preserved c = (search rules, above_put _ _ _ _ c.loop-at.invariant.1 c.put.ensures.newest)

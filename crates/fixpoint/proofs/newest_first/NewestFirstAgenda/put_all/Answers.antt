use Rattle.fixpoint.proofs.AlongLemmas.{both_along}
use Rattle.fixpoint.proofs.OrderLemmas.{above_both}
use Rattle.fixpoint.proofs.newest_first.NewestFirstAgenda.put_all.Goals as goal

pub returns-clause-members : goal.returns-clause-members
returns-clause-members c = both_along _ _ _ _ c.put_along.ensures.members c.put_along-2.ensures.members

pub returns-clause-newest : goal.returns-clause-newest
returns-clause-newest c = above_both _ _ _ c.put_along.ensures.newest c.put_along-2.ensures.newest

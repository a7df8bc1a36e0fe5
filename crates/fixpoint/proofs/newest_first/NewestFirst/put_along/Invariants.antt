use Rattle.std.proofs.Common.{◌-◌}
use Rattle.fixpoint.specs.Orders.{PutsAbove}
use Rattle.fixpoint.proofs.AlongLemmas.{PutBefore}
use Rattle.fixpoint.proofs.newest_first.NewestFirst.put_along.Given as goal

abbrev pub invariant-loop-at : goal.invariant-loop-at
invariant-loop-at l = PutBefore l.axis l.lines l.initial.self.waiting l.self.waiting l.from × PutsAbove l.initial.self.order l.self.order

abbrev pub decreases-loop-at : goal.decreases-loop-at
decreases-loop-at l = 120 - l.from

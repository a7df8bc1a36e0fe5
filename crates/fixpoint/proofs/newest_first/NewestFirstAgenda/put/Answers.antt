use Rattle.std.proofs.Common.{arith}
use Rattle.fixpoint.proofs.StackLemmas.{stack_room, pushed}
use Rattle.fixpoint.proofs.OrderLemmas.{newest_put}
use Rattle.fixpoint.proofs.newest_first.NewestFirstAgenda.put.Goals as goal

pub bounds-self-inside-self-inside : goal.bounds-self-inside-self-inside
bounds-self-inside-self-inside c =
    stack_room _ _ _ _ _ c.self.invariant c.put.ensures.set c.put.ensures.members (λ h. let t = c.has.ensures.value.1 h in let f = c.if-not-has.true in absurd cc)

pub invariant_of-self : goal.invariant_of-self
invariant_of-self c =
    pushed _ _ _ _ _ c.self.invariant c.put.ensures.set c.put.ensures.members (λ h. let t = c.has.ensures.value.1 h in let f = c.if-not-has.true in absurd cc)

pub returns-then-not-has-clause-newest : goal.returns-then-not-has-clause-newest
returns-then-not-has-clause-newest c =
    let room = stack_room _ _ _ _ _ c.self.invariant c.put.ensures.set c.put.ensures.members (λ h. let t = c.has.ensures.value.1 h in let f = c.if-not-has.true in absurd cc) in
    let r = c.self.invariant.room in
    newest_put _ _ _ _ _ _ c.self.view_is (λ h. let t = c.has.ensures.value.1 h in let f = c.if-not-has.true in absurd cc) (omega arith)

use Rattle.std.proofs.Common.{◌≡◌, ◌-◌, ◌<◌, sym, ap, ◌∙◌, arith}
use Rattle.picture.specs.LineSet.{no_names}
use Rattle.fixpoint.specs.Orders.{Pile}
use Rattle.picture.proofs.LineSetLaws.{members}
use Rattle.fixpoint.proofs.NameLaws.{few_names}
use Rattle.fixpoint.proofs.StackLemmas.{below_one, popped_one}
use Rattle.fixpoint.proofs.OrderLemmas.{newest_taken}
use Rattle.fixpoint.proofs.newest_first.NewestFirstAgenda.take.Goals as goal

pub returns-then-self-eq0-clause-members : goal.returns-then-self-eq0-clause-members
returns-then-self-eq0-clause-members c =
    let n = c.self.invariant.count in
    let none : c.self.inside.lines ≡ no_names = (members.counted c.self.inside.lines).0 (omega arith) in
    let e = ap (λ (p : Pile). p.waiting) (sym c.self.view_is) ∙ none in
    (e, e)

pub bounds-self-inside-self-inside : goal.bounds-self-inside-self-inside
bounds-self-inside-self-inside c = grind (arith, few_names)

pub take_out-requires : goal.take_out-requires
take_out-requires c =
    let f = c.if-self-eq0.false in
    let below : c.self.inside.len - 1 < c.self.inside.len = below_one c.self.inside.len f in
    members.inside _ _ c.self.invariant.within (c.self.invariant.members (c.self.inside.len - 1) below)

pub invariant_of-self : goal.invariant_of-self
invariant_of-self c = popped_one _ _ _ _ c.self.invariant c.if-self-eq0.false c.take_out.ensures.set c.take_out.ensures.members

pub returns-clause-newest : goal.returns-clause-newest
returns-clause-newest c =
    let f = few_names c.self.inside.lines c.self.invariant.within in
    let n = c.self.invariant.count in
    let r = c.self.invariant.room in
    newest_taken _ _ _ _ c.self.view_is c.if-self-eq0.false (omega arith)

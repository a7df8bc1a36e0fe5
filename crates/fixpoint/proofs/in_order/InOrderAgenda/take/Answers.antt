use Rattle.std.proofs.Common.{sym, ap, ◌∙◌, arith}
use Rattle.fixpoint.specs.Orders.{Round}
use Rattle.fixpoint.proofs.in_order.InOrderAgenda.take.Goals as goal

pub returns-in_err-line-clause-members : goal.returns-in_err-line-clause-members
returns-in_err-line-clause-members c = grind arith

pub invariant_of-self : goal.invariant_of-self
invariant_of-self c = (c.take_out.ensures.set, (let l = c.in_ok-line.ensures.0 in omega arith))

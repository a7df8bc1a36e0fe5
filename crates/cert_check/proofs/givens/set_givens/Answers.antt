use Rattle.std.proofs.Common.{arith, refl}
use Rattle.cert_check.proofs.GivenLemmas.{has_each, missing}
use Rattle.cert_check.proofs.givens.set_givens.Goals as goal

pub returns-in_default-clause-outside : goal.returns-in_default-clause-outside
returns-in_default-clause-outside c = λ has. c.in_default.ensures (has_each c.args.picture.now c.args.givens.now c.loop-i.i _ _ (omega arith) refl has)

pub returns-in_default-clause-first : goal.returns-in_default-clause-first
returns-in_default-clause-first c = missing c.args.picture.now c.args.facts.now c.loop-i.facts c.loop-i.i c.args.givens.now _ _ c.loop-i.invariant.so_far (omega arith) refl c.in_default.ensures

use Rattle.std.proofs.Common.{length, get_or, bit_and, refl, arith}
use Rattle.std.proofs.lemmas.Nat.{and_le_l}
use Rattle.justify.specs.Premises.{premise_at}
use Rattle.justify.proofs.LineMaskLemmas.{said_here, none_said}
use Rattle.justify.proofs.StandingLemmas.{place_inside}
use Rattle.justify.proofs.masks.has_none.Goals as goal

pub bounds-left-from : goal.bounds-left-from
bounds-left-from c =
    let at = place_inside c.args.premises.now c.args.premises.now c.loop-premise.premise-index (length c.args.left.now) refl c.requires c.loop-premise-test.true in
    omega arith

pub returns-then-left-from-ne0 : goal.returns-then-left-from-ne0
returns-then-left-from-ne0 c = grind (arith, and_le_l, bit_and, get_or, premise_at, said_here)

pub returns : goal.returns
returns c = none_said _ _ _ c.loop-premise-test.false c.loop-premise.invariant

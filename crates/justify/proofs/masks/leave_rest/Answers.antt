use Rattle.std.proofs.Common.{length, refl, arith}
use Rattle.justify.proofs.LineMaskLemmas.{rest_more, rest_all}
use Rattle.justify.proofs.StandingLemmas.{place_inside}
use Rattle.justify.proofs.masks.leave_rest.Goals as goal

pub bounds-left-from : goal.bounds-left-from
bounds-left-from c =
    let at = place_inside c.args.premises.now c.args.premises.now c.loop-premise.premise-index (length c.args.left.now) refl c.requires.inside c.loop-premise-test.true in
    omega arith

pub loop-premise-preserved : goal.loop-premise-preserved
loop-premise-preserved c =
    let premises = c.args.premises.now in
    let n = c.loop-premise.premise-index in
    let left = c.loop-premise.left in
    let at = place_inside premises premises n (length c.args.left.now) refl c.requires.inside c.loop-premise-test.true in
    rw c.from.ensures (rest_more premises n left c.requires.premises c.loop-premise-test.true (omega arith) c.loop-premise.invariant)

pub returns : goal.returns
returns c =
    rest_all c.args.premises.now c.loop-premise.premise-index c.loop-premise.left c.requires.premises (omega arith) c.loop-premise.invariant

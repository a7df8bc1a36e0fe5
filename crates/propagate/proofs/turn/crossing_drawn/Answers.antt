use Rattle.std.proofs.Common.{ap, arith}
use Rattle.picture.specs.declared.line_id.LineId.{LineId}
use Rattle.picture.specs.LineSet.{mask_along}
use Rattle.picture.proofs.BitLaws.{bit_or_not}
use Rattle.justify.proofs.StandingLemmas.{place_inside}
use Rattle.propagate.proofs.TurnLemmas.{crosses_all, crosses_more}
use Rattle.propagate.proofs.turn.crossing_drawn.Goals as goal

pub put-requires : goal.put-requires
put-requires c =
    let place = place_inside c.as_slice-premise-items.result.now c.args.step.now.drawn c.loop-premise.premise-index _ c.as_slice-premise-items.ensures.value c.requires c.loop-premise-test.true in
    let at = ap (λ (l : LineId). l.at) c.crossing.ensures in
    omega arith

pub loop-premise-preserved : goal.loop-premise-preserved
loop-premise-preserved c =
    let put = c.put.ensures in
    let name = c.crossing.result in
    crosses_more c.args.step.now.line c.as_slice-premise-items.result.now c.loop-premise.premise-index c.loop-premise.lines c.put.new.self name c.crossing.ensures
    (bit_or_not (mask_along name.axis c.loop-premise.lines) name.at) put.known put.more put.members c.loop-premise.invariant

pub returns-clause-names : goal.returns-clause-names
returns-clause-names c =
    crosses_all c.args.step.now c.as_slice-premise-items.result.now c.loop-premise.premise-index c.loop-premise.lines c.as_slice-premise-items.ensures.value (omega arith) c.loop-premise.invariant

use Rattle.std.proofs.Common.{◌+◌, refl, arith, map}
use Rattle.std.proofs.lemmas.List.{length-map, length-set, map-set}
use Rattle.line_settle.proofs.PositionLemmas.{spans_one, spans_twice}
use Rattle.line_settle.proofs.SpanLemmas.{step_next, step_below, below_rounds, first_more}
use Rattle.line_settle.proofs.positions.write_spans.Goals as goal

pub loop-k-init : goal.loop-k-init
loop-k-init g c = record {
  step_is = refl;
  seven = c.requires;
  here = spans_one (g.W.Word.bits c.args.cells);
  before = λ n i h. absurd (omega arith);
}

pub down-requires : goal.down-requires
down-requires g c = let l = step_below _ _ _ c.loop-k.invariant.step_is c.loop-k-test.true in omega (arith, c.rounds-k-end.ensures.width)

pub loop-k-preserved : goal.loop-k-preserved
loop-k-preserved g c =
    let bits = g.W.Word.bits in
    let at = c.loop-k.invariant in
    let k = c.loop-k.k in
    let n = length-map c.loop-k.spans bits in
    record {
      step_is = step_next c.loop-k.step k (k + 1) at.step_is refl;
      seven = omega (arith, length-set c.loop-k.spans k c.loop-k.span);
      here = λ j. rw (c.and-span.ensures, c.down.ensures) (spans_twice (bits c.args.cells) (bits c.loop-k.span) c.loop-k.step j at.here);
      before = rw map-set (first_more _ (bits c.loop-k.span) _ k (map bits c.loop-k.spans) (omega (arith, c.rounds-k-end.ensures.few)) at.step_is at.here at.before);
    }

pub returns-clause-each : goal.returns-clause-each
returns-clause-each g c = λ k i h. c.loop-k.invariant.before k i (let l = below_rounds k _ _ c.rounds-k-end.ensures.width h in omega arith)

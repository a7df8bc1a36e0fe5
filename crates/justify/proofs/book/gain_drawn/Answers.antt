use Rattle.std.proofs.Common.{length, arith}
use Rattle.picture.specs.Rows.{line_of}
use Rattle.line_facts.proofs.GridLaws.{same_line_length}
use Rattle.justify.proofs.GainLemmas.{gaining_more}
use Rattle.justify.proofs.StandingLemmas.{place_inside}
use Rattle.justify.proofs.book.gain_drawn.Goals as goal

pub exclude_on-requires-clause-place : goal.exclude_on-requires-clause-place
exclude_on-requires-clause-place c =
    let old = c.args.facts.now in
    let line = c.args.step.now.line in
    let len = same_line_length old c.loop-premise.facts line c.loop-premise.invariant.same_shape in
    let place = place_inside c.as_slice-premise-items.result.now c.args.step.now.drawn c.loop-premise.premise-index
    (length (line_of old line)) c.as_slice-premise-items.ensures.value c.requires.inside c.loop-premise-test.true in
    omega arith

pub loop-premise-preserved : goal.loop-premise-preserved
loop-premise-preserved c = gaining_more c.args.step.now.line c.as_slice-premise-items.result.now c.loop-premise.premise-index c.args.facts.now c.loop-premise.facts c.exclude_on.new.facts
    c.loop-premise.invariant c.exclude_on.ensures

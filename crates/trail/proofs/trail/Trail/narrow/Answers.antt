use Rattle.std.proofs.Common.{ap, ◌∙◌, arith}
use Rattle.trail.specs.Trail.{trail_of}
use Rattle.trail.proofs.GridLemmas.{same_inside}
use Rattle.trail.proofs.trail.Trail.narrow.Goals as goal

pub returns : goal.returns
returns c =
    let i = c.loop-row.invariant in
    let f = c.height-row-end.ensures.facts in
    let same = same_inside c.loop-row.self.at_hand c.args.settled.now _ i.same_shape f.rectangular (λ r col h l. i.above r col (omega arith)) in
    ap (λ x. trail_of x c.loop-row.self.behind c.loop-row.self.cells) same
    ∙ (ap (λ x. trail_of c.args.settled.now x c.loop-row.self.cells) i.behind ∙ ap (λ x. trail_of c.args.settled.now c.args.self.now.behind x) i.cells)

use Rattle.std.proofs.Common.{◌≡◌, ◌+◌, ◌-◌, ◌∙◌, ap, arith, get_or}
use Rattle.line_settle.specs.Patterns.{allows}
use Rattle.line_settle.proofs.GatheringLemmas.{none_gathered, gathered_one}
use Rattle.line_settle.proofs.positions.few_with.Goals as goal

pub loop-i-init : goal.loop-i-init
loop-i-init c = λ j h. none_gathered c.args.left.now c.args.colour j

pub loop-i-preserved : goal.loop-i-preserved
loop-i-preserved c =
    gathered_one 64 c.args.left.now c.loop-i.cells c.from.result c.args.colour (c.loop-i.i - 1) c.loop-i.i c.allows.result (omega arith) c.from.ensures c.allows.ensures c.loop-i.invariant

pub returns : goal.returns
returns c = λ i h.
    let e : c.loop-i.i + i ≡ i = omega arith in
    c.loop-i.invariant i h ∙ ap (λ n. allows (get_or c.args.left.now n 0) c.args.colour) e

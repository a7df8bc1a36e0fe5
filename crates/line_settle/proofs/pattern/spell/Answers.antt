use Rattle.std.proofs.Common.{◌++◌, ap, refl, arith}
use Rattle.std.proofs.lemmas.List.{length-set}
use Rattle.line_settle.specs.Patterns.{spelled_after}
use Rattle.line_settle.proofs.WritingLemmas.{first_written, spelled_past}
use Rattle.line_settle.proofs.pattern.spell.Goals as goal

pub loop-block-init : goal.loop-block-init
loop-block-init c = record {
  within = omega (arith, length-set c.args.buffer.now 0 0);
  so_far = ap (λ x. x ++ spelled_after 0 c.args.blocks.now) (first_written c.args.buffer.now 0 c.requires.room);
}

pub returns-in_err-end : goal.returns-in_err-end
returns-in_err-end c =
    let long = c.in_err-end.ensures in
    let past = spelled_past c.loop-block.last c.args.blocks.now c.loop-block.block-index _ _ c.loop-block.buffer c.loop-block.end c.loop-block-test.true refl c.loop-block.invariant.within
    c.loop-block.invariant.so_far long in
    rw c.from_residual.ensures (omega (arith, length-set c.args.buffer.now 0 0))

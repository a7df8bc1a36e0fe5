use Rattle.std.proofs.Common.{get_or, refl}
use Rattle.clues.specs.Clue.{block}
use Rattle.grade.proofs.StartLemmas.{block_more}
use Rattle.grade.proofs.start.colours_of.Goals as goal

pub loop-block-preserved : goal.loop-block-preserved
loop-block-preserved c =
    let i = c.loop-block.block-index in
    let blocks = c.blocks-block-items.result.now in
    let is = rw (← c.blocks-block-items.ensures.blocks) at c.blocks-block-items.ensures.clue in
    let small = (is i (block 0 0) c.loop-block-test.true).in_palette in
    block_more blocks c.loop-block.colours i (get_or blocks i (block 0 0)) refl small c.loop-block.invariant

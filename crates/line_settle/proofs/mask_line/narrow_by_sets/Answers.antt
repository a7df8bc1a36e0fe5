use Rattle.std.proofs.Common.{◌≤◌, arith, length}
use Rattle.line_settle.specs.Patterns.{spelled_after}
use Rattle.line_settle.proofs.BlockLemmas.{blocks_spelled}
use Rattle.line_settle.proofs.NarrowLemmas.{narrows_long}
use Rattle.line_settle.proofs.mask_line.narrow_by_sets.Goals as goal

pub returns-then-blocks-left : goal.returns-then-blocks-left
returns-then-blocks-left g c =
    let room : length c.args.blocks.now ≤ length (spelled_after 0 c.args.blocks.now) = blocks_spelled 0 _ c.requires.blocks_of_clue in
    rw (c.fill.ensures.after (λ y h. h), ← c.requires.same_length) (narrows_long _ _ c.requires.blocks_of_clue (omega arith))

use Rattle.line_settle.proofs.BlockLemmas.{meets_before, meets_first}
use Rattle.line_settle.proofs.block_steps.meets.Goals as goal

pub returns-then-j-gt0 : goal.returns-then-j-gt0
returns-then-j-gt0 c = meets_before c.args.blocks.now c.args.j c.requires.place c.if-j-gt0.true

pub returns-else-j-gt0 : goal.returns-else-j-gt0
returns-else-j-gt0 c = meets_first c.args.blocks.now c.args.j c.requires.blocks_of_clue c.requires.place c.if-j-gt0.false

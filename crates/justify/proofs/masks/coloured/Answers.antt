use Rattle.std.proofs.Common.{arith}
use Rattle.justify.proofs.GatherLemmas.{eight_coloured}
use Rattle.justify.proofs.masks.coloured.Goals as goal

pub returns : goal.returns
returns c = eight_coloured c.args.masks.now c.args.first (omega arith)

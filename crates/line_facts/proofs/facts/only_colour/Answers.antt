use Rattle.std.proofs.Common.{arith}
use Rattle.line_facts.proofs.MaskLemmas.{only_lowest}
use Rattle.line_facts.proofs.facts.only_colour.Goals as goal

pub returns-else-mask-lowest : goal.returns-else-mask-lowest
returns-else-mask-lowest c = only_lowest c.args.mask (omega arith) (omega arith) c.if-mask-lowest.false

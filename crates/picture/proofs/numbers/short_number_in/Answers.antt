use Rattle.std.proofs.Common.{arith}
use Rattle.picture.proofs.NumberLemmas.{short_small}
use Rattle.picture.proofs.numbers.short_number_in.Goals as goal

pub returns-clause-small : goal.returns-clause-small
returns-clause-small c = short_small c.args.most c.args.bytes.now c.number_in.result c.requires (omega arith) c.number_in.ensures

use Rattle.std.proofs.Common.{eqb, sym}
use Rattle.picture.proofs.SplitLaws.{split_found, split_none}
use Rattle.picture.proofs.cutting.split_first.Goals as goal

pub returns-in-Some-clause-pieces : goal.returns-in-Some-clause-pieces
returns-in-Some-clause-pieces c = split_found (λ b. eqb b c.args.separator) c.args.bytes.now c.in-Some.end (sym c.in-Some.ensures)

pub returns-in-None-clause-pieces : goal.returns-in-None-clause-pieces
returns-in-None-clause-pieces c = split_none (λ b. eqb b c.args.separator) c.args.bytes.now (sym c.in-None.ensures)

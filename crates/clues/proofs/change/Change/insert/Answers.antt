use Rattle.clues.proofs.Insertions.{inserts_agreeing}
use Rattle.clues.proofs.change.Change.insert.Goals as goal

pub returns-clause-agreeing : goal.returns-clause-agreeing
returns-clause-agreeing c = inserts_agreeing c.along.result c.args.line.axis c.args.line.at c.args.height c.args.width c.along.ensures.change c.along.ensures.moves

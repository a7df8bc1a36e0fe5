use Rattle.clues.proofs.Insertions.{deletes_exact}
use Rattle.clues.proofs.change.Change.delete.Goals as goal

pub returns-clause-exact : goal.returns-clause-exact
returns-clause-exact c = deletes_exact c.along.result c.args.line.axis c.args.line.at c.args.height c.args.width c.along.ensures.change c.along.ensures.moves

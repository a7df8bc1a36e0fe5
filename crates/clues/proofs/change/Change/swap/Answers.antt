use Rattle.clues.proofs.EditedPictures.{swaps}
use Rattle.clues.proofs.change.Change.swap.Goals as goal

pub returns-clause-lines : goal.returns-clause-lines
returns-clause-lines c = swaps c.along.result c.args.axis c.args.first c.args.second c.args.height c.args.width c.along.ensures.change c.along.ensures.moves

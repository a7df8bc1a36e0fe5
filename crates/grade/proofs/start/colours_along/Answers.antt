use Rattle.clues.specs.ClueBook.{clues_along}
use Rattle.grade.proofs.StartLemmas.{clue_more}
use Rattle.grade.proofs.start.colours_along.Goals as goal

pub loop-at-preserved : goal.loop-at-preserved
loop-at-preserved c = clue_more (clues_along c.args.axis c.args.book.now) c.loop-at.colours _ c.loop-at.at (rw c.clue.ensures.value at c.colours_of-colours.ensures) c.loop-at.invariant

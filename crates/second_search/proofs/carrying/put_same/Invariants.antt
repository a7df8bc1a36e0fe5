use Rattle.second_search.specs.CarriedParts.{PutsSame}
use Rattle.second_search.specs.Parts.{board}
use Rattle.second_search.proofs.carrying.put_same.Given as goal

abbrev pub invariant-loop-at : goal.invariant-loop-at
invariant-loop-at l = PutsSame (board l.before.clues.now l.before.facts.now l.before.picture.now) (board l.after.clues.now l.after.facts.now l.after.picture.now) l.axis l.at l.fn.lines l.lines

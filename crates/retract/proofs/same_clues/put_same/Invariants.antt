use Rattle.retract.specs.StandingSteps.{PutsSame}
use Rattle.retract.proofs.same_clues.put_same.Given as goal

abbrev pub invariant-loop-at : goal.invariant-loop-at
invariant-loop-at l = PutsSame l.change.moves l.old l.new l.axis l.at l.initial.same l.same

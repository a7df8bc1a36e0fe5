use Rattle.retract.proofs.DirtyLemmas.{AreDirtyBelow}
use Rattle.retract.proofs.dirty.put_dirty.Given as goal

abbrev pub invariant-loop-at : goal.invariant-loop-at
invariant-loop-at l = AreDirtyBelow l.axis l.at l.sides.change.now.moves l.sides.old.now l.sides.new.now l.sides.before.now l.sides.after.now l.initial.dirty l.dirty

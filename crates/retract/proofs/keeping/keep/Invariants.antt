use Rattle.retract.proofs.SoFarLemmas.{KeepsSoFar}
use Rattle.retract.proofs.keeping.keep.Given as goal

abbrev pub invariant-loop-step : goal.invariant-loop-step
invariant-loop-step l = KeepsSoFar l.fn.change.moves l.fn.old l.fn.new l.fn.book l.fn.base l.step-index l.kept

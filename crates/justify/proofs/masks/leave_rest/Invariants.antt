use Rattle.justify.proofs.LineMaskLemmas.{Rest}
use Rattle.justify.proofs.masks.leave_rest.Given as goal

abbrev pub invariant-loop-premise : goal.invariant-loop-premise
invariant-loop-premise l = Rest l.premises l.premise-index l.left

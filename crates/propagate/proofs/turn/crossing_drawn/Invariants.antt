use Rattle.propagate.proofs.TurnLemmas.{CrossesSoFar}
use Rattle.propagate.proofs.turn.crossing_drawn.Given as goal

abbrev pub invariant-loop-premise : goal.invariant-loop-premise
invariant-loop-premise l = CrossesSoFar l.step.line l.premise-items l.premise-index l.lines

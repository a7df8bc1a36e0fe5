use Rattle.justify.proofs.GainLemmas.{Gaining}
use Rattle.justify.proofs.book.gain_drawn.Given as goal

abbrev pub invariant-loop-premise : goal.invariant-loop-premise
invariant-loop-premise l = Gaining l.line l.premise-items l.premise-index l.initial.facts l.facts

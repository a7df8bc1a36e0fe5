use Rattle.grade.proofs.StartLemmas.{Started}
use Rattle.grade.proofs.start.start_facts.Given as goal

abbrev pub invariant-loop-row : goal.invariant-loop-row
invariant-loop-row l = Started l.free l.document.givens l.document.picture l.facts l.row

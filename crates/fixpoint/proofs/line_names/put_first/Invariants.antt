use Rattle.fixpoint.specs.LineNames.{PutsFirst}
use Rattle.fixpoint.proofs.line_names.put_first.Given as goal

abbrev pub invariant-loop-at : goal.invariant-loop-at
invariant-loop-at l = PutsFirst l.initial.lines l.lines l.axis l.at

use Rattle.line_facts.proofs.WriteLemmas.{IsWriting}
use Rattle.line_facts.proofs.facts.write_column.Given as goal

abbrev pub invariant-loop-row : goal.invariant-loop-row
invariant-loop-row l = IsWriting l.height l.width l.initial.cells l.cells l.fn.line l.masks l.row

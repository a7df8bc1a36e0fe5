use Rattle.line_facts.proofs.WriteLemmas.{IsWriting}
use Rattle.line_facts.proofs.facts.write_row.Given as goal

abbrev pub invariant-loop-col : goal.invariant-loop-col
invariant-loop-col l = IsWriting l.height l.width l.initial.cells l.cells l.fn.line l.masks l.col

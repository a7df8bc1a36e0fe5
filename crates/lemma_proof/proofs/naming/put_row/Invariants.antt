use Rattle.lemma_proof.specs.Naming.{NamesUpTo}
use Rattle.lemma_proof.proofs.naming.put_row.Given as goal

abbrev pub invariant-loop-col : goal.invariant-loop-col
invariant-loop-col l = NamesUpTo l.givens l.row l.col l.cells.items

use Rattle.lemma_proof.specs.Naming.{NamesUpTo}
use Rattle.lemma_proof.proofs.naming.given_cells.Given as goal

abbrev pub invariant-loop-row : goal.invariant-loop-row
invariant-loop-row l = NamesUpTo l.givens l.row 0 l.cells.items

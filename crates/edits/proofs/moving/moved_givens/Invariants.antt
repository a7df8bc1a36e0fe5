-- the givens of the rows before, and those so far of this one
use Rattle.edits.specs.MovedGivens.{AreMovedTo}
use Rattle.edits.proofs.moving.moved_givens.Given as goal

abbrev pub invariant-loop-row : goal.invariant-loop-row
invariant-loop-row l = AreMovedTo l.givens l.moved l.back.moves l.width l.row 0

abbrev pub invariant-loop-col : goal.invariant-loop-col
invariant-loop-col l = AreMovedTo l.givens l.moved l.back.moves l.width l.row l.col

-- the lines of the cells so far are touched
use Rattle.std.proofs.Common.{◌≡◌, length, ◌↔◌}
use Rattle.picture.specs.declared.line_id.LineId.{LineId}
use Rattle.picture.specs.Rows.{width_of}
use Rattle.clues.specs.Change.{IsTouched, still}
use Rattle.edits.specs.Change.{IsCrossed}
use Rattle.edits.proofs.change.of_cells.Given as goal

abbrev pub invariant-loop-row : goal.invariant-loop-row
invariant-loop-row l = record {
  moves : l.change.moves ≡ still (length l.old) (width_of l.old);
  touched : (line : LineId) → IsTouched l.change line ↔ IsCrossed l.row-index l.cells line;
}

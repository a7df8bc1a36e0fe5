-- of the crossing lines so far, those with different cells are touched
use Rattle.std.proofs.Common.{◌≡◌, length, ◌↔◌}
use Rattle.picture.specs.declared.line_id.LineId.{LineId}
use Rattle.picture.specs.Rows.{width_of}
use Rattle.clues.specs.declared.places.Places.TheVariants.{Swapped}
use Rattle.clues.specs.Change.{IsTouched, moved_along}
use Rattle.edits.specs.Change.{CrossesApart}
use Rattle.edits.proofs.change.of_swap.Given as goal

abbrev pub invariant-loop-at : goal.invariant-loop-at
invariant-loop-at l = record {
  moves : l.change.moves ≡ moved_along l.axis (Swapped l.first l.second) (length l.old) (width_of l.old);
  touched : (line : LineId) → IsTouched l.change line ↔ CrossesApart l.at l.axis l.first l.second l.old line;
}

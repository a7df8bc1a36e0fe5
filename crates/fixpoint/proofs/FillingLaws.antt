-- Laws of the pictures that facts allow.
use Rattle.line_facts.specs.Masks.{Masks}
use Rattle.picture.specs.Rows.{cell_at, Rows}
use Rattle.clues.specs.ClueBook.{Clues}
use Rattle.line_facts.specs.FactSets.{IsWithin}
use Rattle.line_facts.proofs.GridLaws.{shape_sym, shape_trans}
use Rattle.fixpoint.specs.Fillings.{Fills}

-- what fills facts fills all that exclude less
pub fills_fewer : (clues : Clues) (base facts : Masks) (picture : Rows) → IsWithin base facts → Fills clues facts picture → Fills clues base picture
fills_fewer clues base facts picture w f = record {
  is_picture = f.is_picture;
  same_shape = shape_trans f.same_shape (shape_sym w.same_shape);
  has_clues = f.has_clues;
  leaves = λ row col inside. w.leaves row col (cell_at picture row col) (f.leaves row col inside);
}

-- the givens so far
use Rattle.std.proofs.Common.{◌≡◌, length, map, take}
use Rattle.picture.specs.Document.{AreInside}
use Rattle.picture.specs.Rows.{width_of}
use Rattle.edits.specs.Design.{marks_of}
use Rattle.edits.specs.Note.{as_mark, with_cells}
use Rattle.edits.proofs.cells.put_givens.Given as goal

abbrev pub invariant-loop-row : goal.invariant-loop-row
invariant-loop-row l = record {
  marks : marks_of (length l.picture) (width_of l.picture) l.givens ≡ with_cells (marks_of (length l.picture) (width_of l.picture) l.fn.givens) (map as_mark (take l.row-index l.places));
  inside : AreInside l.givens l.picture;
}

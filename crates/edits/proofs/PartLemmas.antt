-- Documents made from another one's parts.
use Rattle.std.proofs.Common.{◌≡◌, ℕ, ◌<◌, ◌≤◌, List, length, map, refl, ap, ◌∙◌, Result, Ok, Err, IfOk}
use Rattle.std.specs.List.{All}
use Rattle.picture.specs.declared.picture.TheConstants.{MAX_SIDE}
use Rattle.picture.specs.declared.line_id.Axis.{Axis}
use Rattle.picture.specs.declared.line_id.Axis.TheVariants.{Across, Down}
use Rattle.picture.specs.Palette.{Colours}
use Rattle.picture.specs.Picture.{IsPicture}
use Rattle.picture.specs.Document.{AreInside}
use Rattle.picture.specs.Rows.{width_of, lines_along, Rows}
use Rattle.clues.specs.declared.places.Places.{Places}
use Rattle.clues.specs.Places.{AreAmong, count_after, reversed}
use Rattle.clues.proofs.EditedPictures.{edited_picture}
use Rattle.clues.specs.Change.{Moves, moved_along}
use Rattle.picture.specs.declared.document.Document.{Document}
use Rattle.edits.specs.Design.{Design, design, design_of, marks_of}
use Rattle.edits.specs.MovedGivens.{AreMoved}
use Rattle.edits.specs.Note.{Cell, IsCellIn, as_mark, with_cells}
use Rattle.edits.proofs.CellLemmas.{with_cells_sizes}
use Rattle.edits.proofs.DesignLemmas.{assembled}
use Rattle.edits.proofs.ShiftLemmas.{edited_marks}

pub some_lines : (axis : Axis) (rows : Rows) → IsPicture rows → (0 < lines_along axis rows) × (lines_along axis rows ≤ MAX_SIDE)
some_lines Across rows is = (is.has_row, is.rows_fit)
some_lines Down rows is = (is.has_column, is.columns_fit)

-- lines that have moved: `shift` is what the edit does to a picture and to its marks
pub moved_document : (axis : Axis) (places : Places) (shift : List (List ℕ) → List (List ℕ)) → ((rows : Rows) → shift rows ≡ edited_picture axis places rows)
    → (height width : ℕ) (rows now : Rows) (givens new : List ℕ) (moves : Moves) (p p' : Colours) → IsPicture rows → AreAmong places (lines_along axis rows)
    → 0 < count_after places (lines_along axis rows) → p' ≡ p → now ≡ shift rows → height ≡ length now → width ≡ width_of now → moves ≡ moved_along axis (reversed places) height width
    → AreMoved givens new moves height width → design p' now (marks_of (length now) (width_of now) new) ≡ design p (shift rows) (shift (marks_of (length rows) (width_of rows) givens))
moved_document axis places shift is_edited height width rows now givens new moves p p' is among some palette same h w leads moved =
    let now_is : now ≡ edited_picture axis places rows = same ∙ is_edited rows in
    let there : AreMoved givens new (moved_along axis (reversed places) height width) (length (edited_picture axis places rows)) (width_of (edited_picture axis places rows)) =
    rw (← leads, ← now_is, ← h, ← w) moved in
    assembled p p' (shift rows) now new (shift (marks_of (length rows) (width_of rows) givens)) palette same
    (rw (is_edited rows, is_edited (marks_of (length rows) (width_of rows) givens)) (edited_marks axis places height width rows givens new is among some there))

-- cells changed leave the size
pub changed_document : (rows now : Rows) (cells : List Cell) (givens : List ℕ) (p p' : Colours) → IsPicture rows → All (IsCellIn rows) cells → p' ≡ p → now ≡ with_cells rows cells
    → design p' now (marks_of (length now) (width_of now) givens) ≡ design p (with_cells rows cells) (marks_of (length rows) (width_of rows) givens)
changed_document rows now cells givens p p' is inside palette same =
    let sizes = with_cells_sizes rows cells is inside in
    assembled p p' (with_cells rows cells) now givens (marks_of (length rows) (width_of rows) givens) palette same
    (ap (λ h. marks_of h (width_of (with_cells rows cells)) givens) sizes.0 ∙ ap (λ w. marks_of (length rows) w givens) sizes.1)

pub changed_inside : (rows now : Rows) (cells : List Cell) (givens : List ℕ) → IsPicture rows → All (IsCellIn rows) cells → now ≡ with_cells rows cells → AreInside givens rows → AreInside givens now
changed_inside rows now cells givens is inside same given =
    let sizes = with_cells_sizes rows cells is inside in
    λ i j has. (rw (same, sizes.0) (given i j has).0, rw (same, sizes.1) (given i j has).1)

-- cells and givens put into a document with a new line
pub restored_document : (rows now : Rows) (cells : List Cell) (places : List (ℕ × ℕ)) (old new : List ℕ) (p : Colours) (d : Design) → IsPicture rows → All (IsCellIn rows) cells
    → design p rows (marks_of (length rows) (width_of rows) old) ≡ d → now ≡ with_cells rows cells
    → marks_of (length rows) (width_of rows) new ≡ with_cells (marks_of (length rows) (width_of rows) old) (map as_mark places)
    → design p now (marks_of (length now) (width_of now) new) ≡ design d.colours (with_cells d.rows cells) (with_cells d.marks (map as_mark places))
restored_document rows now cells places old new p d is inside blank same put =
    changed_document rows now cells new p p is inside refl same
    ∙ (ap (λ m. design p (with_cells rows cells) m) put
    ∙ ap (λ (x : Design). design x.colours (with_cells x.rows cells) (with_cells x.marks (map as_mark places))) blank)

-- the document that is made with a picture whose lines have moved
pub moved_to : {E : Type 0} (r : Result Document E) (p : Colours) (now : Rows) (givens : List ℕ) (moves : Moves) (d : Design)
    → ((new : List ℕ) → AreMoved givens new moves (length now) (width_of now) → design p now (marks_of (length now) (width_of now) new) ≡ d) → IfOk r (λ x. x.palette ≡ p)
    → IfOk r (λ x. x.picture ≡ now) → IfOk r (λ x. AreMoved givens x.givens moves (length now) (width_of now)) → IfOk r (λ x. design_of x ≡ d)
moved_to (Ok x) p now givens moves d gives palette picture moved = rw (palette, picture) (gives x.givens moved)
moved_to (Err e) p now givens moves d gives palette picture moved = tt

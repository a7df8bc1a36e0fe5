-- A law of documents that are seen cell by cell.
use Rattle.std.specs.Prelude.{◌≡◌, ℕ, ◌↔◌, List, length}
use Rattle.picture.specs.CellSet.{HasCell}
use Rattle.picture.specs.Document.{AreInside}
use Rattle.picture.specs.Rows.{cell_at, width_of, Rows}
use Rattle.edits.specs.Design.{marks_of}

-- exactly the givens are marked
abbrev pub MarksAreGivens : Type 0
MarksAreGivens =
    (rows : Rows) (givens : List ℕ)
    → AreInside givens rows
    → (i j : ℕ) → HasCell givens i j ↔ (cell_at (marks_of (length rows) (width_of rows) givens) i j ≡ 1)

-- Givens put one by one.
use Rattle.std.proofs.Common.{◌≡◌, ℕ, ◌+◌, ◌<◌, inl, inr, List, [], ◌∷◌, length, get_or, map, take, sym, ap, ◌∙◌}
use Rattle.std.proofs.lemmas.List.{map-append, take_more}
use Rattle.picture.specs.CellSet.{PutsCell}
use Rattle.picture.specs.Document.{AreInside}
use Rattle.picture.specs.Rows.{width_of, with_cell, Rows}
use Rattle.edits.specs.Design.{marks_of, Marks}
use Rattle.edits.specs.Note.{IsPlaceIn, as_mark, with_cells}
use Rattle.edits.proofs.CellLemmas.{with_cells-push}
use Rattle.edits.proofs.DesignLemmas.{pinned_marks}

pub mark_more : (marks : Marks) (now : Rows) (places : List (ℕ × ℕ)) (i : ℕ) (d : ℕ × ℕ) → i < length places → now ≡ with_cells marks (map as_mark (take i places))
    → with_cell now (get_or places i d).0 (get_or places i d).1 1 ≡ with_cells marks (map as_mark (take (i + 1) places))
mark_more marks now places i d within same =
    rw same
    (sym (ap (λ xs. with_cells marks (map as_mark xs)) (take_more places i d within)
    ∙ (ap (with_cells marks) (map-append as_mark (take i places) (get_or places i d ∷ []))
    ∙ with_cells-push marks (map as_mark (take i places)) (as_mark (get_or places i d)))))

pub given_more : (rows : Rows) (old now new : List ℕ) (places : List (ℕ × ℕ)) (i : ℕ) (d : ℕ × ℕ) → i < length places → IsPlaceIn rows (get_or places i d)
    → PutsCell now new (get_or places i d).0 (get_or places i d).1 → marks_of (length rows) (width_of rows) now ≡ with_cells (marks_of (length rows) (width_of rows) old) (map as_mark (take i places))
    → marks_of (length rows) (width_of rows) new ≡ with_cells (marks_of (length rows) (width_of rows) old) (map as_mark (take (i + 1) places))
given_more rows old now new places i d within inside puts same =
    pinned_marks (length rows) (width_of rows) now new (get_or places i d).0 (get_or places i d).1 inside.0 inside.1 puts
    ∙ mark_more (marks_of (length rows) (width_of rows) old) (marks_of (length rows) (width_of rows) now) places i d within same

pub inside_more : (rows : Rows) (now new : List ℕ) (row col : ℕ) → row < length rows → col < width_of rows → PutsCell now new row col → AreInside now rows → AreInside new rows
inside_more rows now new row col in_rows in_columns puts inside = λ i j has.
    elim ((puts i j).0 has) [ inl had ↦ inside i j had | inr at ↦ (rw at.0 in_rows, rw at.1 in_columns) ]

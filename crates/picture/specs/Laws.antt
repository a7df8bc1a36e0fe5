-- Laws of sets of cells, of sets of names of lines, and of documents.
use Rattle.std.specs.Prelude.{◌≡◌, ℕ, ◌<◌, ◌⊎◌, ◌↔◌, List}
use Rattle.picture.specs.declared.document.Document.{Document}
use Rattle.picture.specs.declared.line_id.LineId.{LineId}
use Rattle.picture.specs.declared.picture.TheConstants.{MAX_SIDE}
use Rattle.picture.specs.CellSet.{IsCellSet, HasCell, PutsCell, TakesOutCell, cell_count, no_cells}
use Rattle.picture.specs.Content.{content_of}
use Rattle.picture.specs.LineSet.{Lines, IsLineSet, HasName, PutsName, TakesOutName, name_count, no_names}

-- sets with the same cells are equal
abbrev pub SameCellsAreEqual : Type 0
SameCellsAreEqual = (one other : List ℕ) → IsCellSet one → IsCellSet other
    → ((row col : ℕ) → row < MAX_SIDE → col < MAX_SIDE → HasCell one row col ↔ HasCell other row col) → one ≡ other

-- each cell is in a set or not, a cell in it lies in the table, and the empty set alone has count 0
pub record CellsAreMembers : Type 0 where
  pub decided : (cells : List ℕ) (row col : ℕ) → HasCell cells row col ⊎ ¬ HasCell cells row col
  pub inside : (cells : List ℕ) (row col : ℕ) → IsCellSet cells → HasCell cells row col
      → (row < MAX_SIDE) × (col < MAX_SIDE)
  pub empty : (row col : ℕ) → ¬ HasCell no_cells row col
  pub counted : (cells : List ℕ) → IsCellSet cells → (cell_count cells ≡ 0) ↔ (cells ≡ no_cells)

-- a cell put into a set that did not have it and then taken out leaves
-- the set as it was, and so does one that is taken out and put back
pub record CellsComeBack : Type 0 where
  pub put_first : (old with_it new : List ℕ) (row col : ℕ) → IsCellSet old → IsCellSet new → ¬ HasCell old row col
      → PutsCell old with_it row col → TakesOutCell with_it new row col → new ≡ old
  pub taken_first : (old without_it new : List ℕ) (row col : ℕ) → IsCellSet old → IsCellSet new → HasCell old row col
      → TakesOutCell old without_it row col → PutsCell without_it new row col → new ≡ old

-- sets with the same names are equal
abbrev pub SameNamesAreEqual : Type 0
SameNamesAreEqual = (one other : Lines) → IsLineSet one → IsLineSet other
    → ((line : LineId) → line.at < MAX_SIDE → HasName one line ↔ HasName other line) → one ≡ other

-- each name is in a set or not, a name in it has a place in the table, and the empty set alone has count 0
pub record NamesAreMembers : Type 0 where
  pub decided : (lines : Lines) (line : LineId) → HasName lines line ⊎ ¬ HasName lines line
  pub inside : (lines : Lines) (line : LineId) → IsLineSet lines → HasName lines line → line.at < MAX_SIDE
  pub empty : (line : LineId) → ¬ HasName no_names line
  pub counted : (lines : Lines) → (name_count lines ≡ 0) ↔ (lines ≡ no_names)

-- a name put into a set that did not have it and then taken out leaves
-- the set as it was, and so does one that is taken out and put back
pub record NamesComeBack : Type 0 where
  pub put_first : (old with_it new : Lines) (line : LineId) → IsLineSet old → IsLineSet new → ¬ HasName old line
      → PutsName old with_it line → TakesOutName with_it new line → new ≡ old
  pub taken_first : (old without_it new : Lines) (line : LineId) → IsLineSet old → IsLineSet new → HasName old line
      → TakesOutName old without_it line → PutsName without_it new line → new ≡ old

-- documents with the same colours, cells and givens are equal
abbrev pub SameContentsAreEqual : Type 0
SameContentsAreEqual = (one other : Document) → content_of one ≡ content_of other → one ≡ other

-- What is known of the parts of one board, carried to another board.
use Rattle.std.specs.Prelude.{◌≡◌, ℕ, ◌<◌, ◌⊎◌, ◌↔◌, List, [], length, slice_index_or}
use Rattle.picture.specs.declared.line_id.Axis.{Axis}
use Rattle.picture.specs.declared.line_id.LineId.{LineId}
use Rattle.picture.specs.CellSet.{HasCell}
use Rattle.picture.specs.LineSet.{Lines, HasName}
use Rattle.picture.specs.Rows.{width_of, cell_at, HasLine, Rows}
use Rattle.line_facts.specs.FactSets.{SameShape}
use Rattle.second_search.specs.declared.keeper.Answer.{Answer}
use Rattle.second_search.specs.declared.keeper.Answer.TheVariants.{Unknown, Nothing, Filling}
use Rattle.second_search.specs.declared.keeper.KeptPart.{KeptPart}
use Rattle.second_search.specs.JudgedParts.{IsTrueOf, answer_at, cells_at}
use Rattle.second_search.specs.Parts.{Board, GoesThrough, IsSameLine, KeepsLines, picked}

-- what is known of a part, carried to a board with another picture: another filling keeps its colours on the part,
-- and gets that picture's elsewhere
abbrev pub carried : List ℕ → Rows → Answer → Answer
carried cells picture Unknown = Unknown
carried cells picture Nothing = Nothing
carried cells picture (Filling other) = Filling (picked cells other picture)

-- a part with these cells is kept, and this is known of it
pub record IsKept (kept : List KeptPart) (cells : List ℕ) (answer : Answer) : Type 0 where
  pub at : ℕ
  pub place : at < length kept
  pub cells_are : cells_at kept at ≡ cells
  pub answer_is : answer_at kept at ≡ answer

-- nothing is known of the first parts
abbrev pub KnowsNothing : List KeptPart → ℕ → Type 0
KnowsNothing kept count = (i : ℕ) → i < count → answer_at kept i ≡ Unknown

-- where each line through a part is the same on both boards, what was known of it is carried; else nothing is known
pub record IsCarried (before after : Board) (old : List KeptPart) (cells : List ℕ) (answer : Answer) : Type 0 where
  pub keeps : KeepsLines before after cells
      → (known : Answer) × (IsKept old cells known × (answer ≡ carried cells after.picture known))
  pub drops : (KeepsLines before after cells → ⊥) → answer ≡ Unknown

abbrev pub Carries : Board → Board → List KeptPart → List KeptPart → Type 0
Carries before after old new =
    (i : ℕ) → i < length new → IsCarried before after old (cells_at new i) (answer_at new i)

-- ---- the lines that are the same

abbrev pub AreSameLines : Board → Board → Lines → Type 0
AreSameLines before after lines =
    (line : LineId) → HasLine after.picture line → HasName lines line ↔ IsSameLine before after line

-- a line is one of the first along an axis, and the same on both boards
pub record IsSameAlong (before after : Board) (axis : Axis) (count : ℕ) (line : LineId) : Type 0 where
  pub along : line.axis ≡ axis
  pub near : line.at < count
  pub same : IsSameLine before after line

-- the names of these lines are put into a set
abbrev pub PutsSame : Board → Board → Axis → ℕ → Lines → Lines → Type 0
PutsSame before after axis count old new =
    (line : LineId) → HasName new line ↔ (HasName old line ⊎ IsSameAlong before after axis count line)

-- ---- lines through some cells

-- the cells lie in the grid
abbrev pub LieInside : List ℕ → Rows → Type 0
LieInside cells rows = (row col : ℕ) → HasCell cells row col → (row < length rows) × (col < width_of rows)

-- each line through the cells is named
abbrev pub NamesThrough : Lines → List ℕ → Type 0
NamesThrough lines cells = (line : LineId) → GoesThrough line cells → HasName lines line

-- each of the first lines along an axis that goes through the cells is named
abbrev pub NamesAlong : Lines → List ℕ → Axis → ℕ → Type 0
NamesAlong lines cells axis count = (at : ℕ) → at < count → GoesThrough (record { axis = axis; at = at }) cells
    → HasName lines (record { axis = axis; at = at })

-- ---- the colours of one picture put on cells of another

-- in the first cells of a row, those of a set get the colours of another picture
pub record PutsRowOn (cells : List ℕ) (other : Rows) (old new : Rows) (row width : ℕ) : Type 0 where
  pub same_shape : SameShape old new
  pub kept : (col : ℕ) → (HasCell cells row col → ⊥) → cell_at new row col ≡ cell_at old row col
  pub put : (col : ℕ) → col < width → HasCell cells row col → cell_at new row col ≡ cell_at other row col
  pub elsewhere : (r col : ℕ) → (r ≡ row → ⊥) → cell_at new r col ≡ cell_at old r col

-- in the first rows, the cells of a set get the colours of another picture
pub record PutsOn (cells : List ℕ) (other : Rows) (old new : Rows) (rows : ℕ) : Type 0 where
  pub same_shape : SameShape old new
  pub kept : (row col : ℕ) → (HasCell cells row col → ⊥) → cell_at new row col ≡ cell_at old row col
  pub put : (row col : ℕ) → row < rows → col < width_of old → HasCell cells row col
      → cell_at new row col ≡ cell_at other row col

-- where another filling of a part is known, that picture has all cells of the part
abbrev pub HoldsCells : List ℕ → Answer → Type 0
HoldsCells cells Unknown = Unit {0}
HoldsCells cells Nothing = Unit {0}
HoldsCells cells (Filling other) = LieInside cells other

-- the first of some parts are kept, each with what is carried for it, which is true
pub record CarriesFirst (before after : Board) (givens_after : List ℕ) (old : List KeptPart) (parts : List (List ℕ))
    (new : List KeptPart) (count : ℕ) : Type 0 where
  pub count_is : length new ≡ count
  pub cells : (i : ℕ) → i < count → cells_at new i ≡ slice_index_or parts i []
  pub carries : (i : ℕ) → i < count → IsCarried before after old (cells_at new i) (answer_at new i)
  pub true_answers : (i : ℕ) → i < count
      → IsTrueOf after.clues givens_after after.picture (cells_at new i) (answer_at new i)

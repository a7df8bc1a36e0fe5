-- The clues of all lines of a picture.
use Rattle.std.specs.Prelude.{◌<◌, ◌≤◌, List, [], length, map, slice_index, slice_index_or}
use Rattle.std.specs.List.{range_with_len}
use Rattle.picture.specs.declared.line_id.Axis.{Axis}
use Rattle.picture.specs.declared.line_id.Axis.TheVariants.{Across, Down}
use Rattle.picture.specs.declared.line_id.LineId.{LineId}
use Rattle.picture.specs.declared.picture.TheConstants.{MAX_SIDE}
use Rattle.picture.specs.Rows.{width_of, Rows}
use Rattle.clues.specs.declared.block.Block.{Block}
use Rattle.clues.specs.Clue.{clue_of}

-- the clue of each row, from the top, and of each column, from the left
pub record Clues : Type 0 where
  pub rows : List (List Block)
  pub columns : List (List Block)

abbrev pub clues_from : List (List Block) → List (List Block) → Clues
clues_from rows columns = record { rows = rows; columns = columns }

abbrev pub clues_along : Axis → Clues → List (List Block)
clues_along Across clues = clues.rows
clues_along Down clues = clues.columns

-- the clue of a line
abbrev pub clue_at : Clues → LineId → List Block
clue_at clues line = slice_index_or (clues_along line.axis clues) line.at []

-- there is a clue for the line
abbrev pub HasClue : Clues → LineId → Type 0
HasClue clues line = line.at < length (clues_along line.axis clues)

-- the columns of a picture from the left, each from the top
abbrev pub columns_of : Rows → Rows
columns_of picture = map (λ j. map (λ row. slice_index row j) picture) (range_with_len 0 (width_of picture))

-- the clues of a picture
abbrev pub clues_of : Rows → Clues
clues_of picture = record { rows = map clue_of picture; columns = map clue_of (columns_of picture) }

-- what holds of the clues in a clue book: they are of 1 to 120 rows and columns
pub record IsBook (clues : Clues) : Type 0 where
  pub has_row : 0 < length clues.rows
  pub rows_fit : length clues.rows ≤ MAX_SIDE
  pub has_column : 0 < length clues.columns
  pub columns_fit : length clues.columns ≤ MAX_SIDE

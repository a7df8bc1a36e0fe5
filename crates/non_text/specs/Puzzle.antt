-- The puzzle of a .non text.
use Rattle.std.specs.Prelude.{ℕ, Bool, ◌&&◌, ◌||◌, List, [], ◌∷◌, Option, None, Some, is_none, Result, Ok, Err, codes}
use Rattle.std.specs.Prelude.{nat_le, ◌==◌, if◌then◌else◌, option_and_then}
use Rattle.std.specs.List.{list_any}
use Rattle.std.specs.Option.{ok_or}
use Rattle.std.specs.Cmp.Lexicographic.{pointwise}
use Rattle.picture.specs.declared.picture.TheConstants.{MAX_SIDE}
use Rattle.picture.specs.Readers.{◌>>=◌}
use Rattle.clues.specs.declared.block.Block.{Block}
use Rattle.clues.specs.ClueBook.{Clues, clues_from, clues_of}
use Rattle.non_text.specs.declared.non_puzzle.NonPuzzle.{NonPuzzle}
use Rattle.non_text.specs.declared.fault.NonFault.{NonFault}
use Rattle.non_text.specs.declared.fault.NonFault.TheVariants.{MissingSize, BadSize, Repeated, GoalDisagrees}
use Rattle.picture.specs.Numbers.{number_spelled}
use Rattle.non_text.specs.Lines.{lines_of, has_keyword, value_of, at_keyword}
use Rattle.non_text.specs.Section.{clues_behind}
use Rattle.non_text.specs.Goal.{goal_in}

-- a size that a picture can have
abbrev pub size_within : ℕ → Option ℕ
size_within n = if nat_le 1 n && nat_le n MAX_SIDE then Some n else None

-- the size that a value gives
unfoldable pub size_in : List ℕ → Option ℕ
size_in value = option_and_then size_within (number_spelled value)

abbrev pub is_size_line : List ℕ → Bool
is_size_line line = has_keyword (codes "width") line || has_keyword (codes "height") line

-- the line has this keyword, and so does a line above it
abbrev pub repeats : List ℕ → List (List ℕ) → List ℕ → Bool
repeats keyword above line = has_keyword keyword line && list_any (has_keyword keyword) above

-- the line is a second `width`, `height`, `rows` or `columns`
abbrev pub is_repeated : List (List ℕ) → List ℕ → Bool
is_repeated above line =
    (repeats (codes "width") above line || repeats (codes "height") above line)
    || (repeats (codes "rows") above line || repeats (codes "columns") above line)

-- the error of a line that is below these lines
unfoldable pub line_fault : List (List ℕ) → List ℕ → Option NonFault
line_fault above line =
    if is_repeated above line then Some Repeated
    else (if is_size_line line && is_none (size_in (value_of line)) then Some BadSize else None)

-- the first error, or else the later one
abbrev pub first_of_two : Option NonFault → Option NonFault → Option NonFault
first_of_two None later = later
first_of_two (Some e) later = Some e

-- the error of the first bad line; `above` are the lines above these lines, the nearest first
unfoldable pub first_fault : List (List ℕ) → List (List ℕ) → Option NonFault
first_fault above [] = None
first_fault above (line ∷ lines) = first_of_two (line_fault above line) (first_fault (line ∷ above) lines)

-- the size after a keyword
unfoldable pub size_behind : List ℕ → List (List ℕ) → Option ℕ
size_behind keyword lines = option_and_then (λ found. size_in (value_of found.0)) (at_keyword keyword lines)

abbrev pub or_fault : Option NonFault → Result (Unit {0}) NonFault
or_fault None = Ok tt
or_fault (Some e) = Err e

-- the goal on a goal line, where there is one
abbrev pub found_goal : ℕ → ℕ → Option (List ℕ × List (List ℕ)) → Result (Option (List (List ℕ))) NonFault
found_goal height width None = Ok None
found_goal height width (Some found) = do
  rows ← goal_in height width (value_of found.0)
  Ok (Some rows)

-- the first goal
unfoldable pub goal_behind : ℕ → ℕ → List (List ℕ) → Result (Option (List (List ℕ))) NonFault
goal_behind height width lines = found_goal height width (at_keyword (codes "goal") lines)

abbrev pub same_block : Block → Block → Bool
same_block a b = (a.len == b.len) && (a.colour == b.colour)

-- both have the same clues
unfoldable pub same_clues : Clues → Clues → Bool
same_clues a b =
    pointwise (pointwise same_block) a.rows b.rows && pointwise (pointwise same_block) a.columns b.columns

-- the puzzle with these clues; a goal with other clues is an error
unfoldable pub agreeing : Clues → Option (List (List ℕ)) → Result NonPuzzle NonFault
agreeing clues None = Ok (record { clues = clues; goal = None })
agreeing clues (Some rows) =
    if same_clues (clues_of rows) clues then Ok (record { clues = clues; goal = Some rows }) else Err GoalDisagrees

-- the puzzle of these lines
unfoldable pub puzzle_of : List (List ℕ) → Result NonPuzzle NonFault
puzzle_of lines = do
  _ ← or_fault (first_fault [] lines)
  width ← ok_or (size_behind (codes "width") lines) MissingSize
  height ← ok_or (size_behind (codes "height") lines) MissingSize
  rows ← clues_behind (codes "rows") height width lines
  columns ← clues_behind (codes "columns") width height lines
  goal ← goal_behind height width lines
  agreeing (clues_from rows columns) goal

-- the puzzle of a text
abbrev pub non_of : List ℕ → Result NonPuzzle NonFault
non_of text = puzzle_of (lines_of text)

-- A puzzle that was read shows no colour above 1, whether its goal is opened or a picture with its clues.
use Rattle.std.proofs.Common.{◌≡◌, ◌≤◌, ℕ, List, Some, Ok}
use Rattle.picture.specs.Rows.{cell_at, Rows}
use Rattle.non_text.specs.declared.non_puzzle.NonPuzzle.{NonPuzzle}
use Rattle.non_text.specs.Puzzle.{non_of}
use Rattle.non_text.specs.TwoColours.{PuzzlesAreInTwoColours}
use Rattle.second_search.specs.Other.{FindsFirst}

pub goal_is_low : PuzzlesAreInTwoColours → (text : List ℕ) (puzzle : NonPuzzle) (rows : Rows) → non_of text ≡ Ok puzzle → puzzle.goal ≡ Some rows → (row col : ℕ) → cell_at rows row col ≤ 1
goal_is_low law text puzzle rows read is = let two = law text puzzle read in two.two_colours rows (two.goal_fits rows is)

pub found_is_low : PuzzlesAreInTwoColours → (text : List ℕ) (puzzle : NonPuzzle) (rows : Rows) → non_of text ≡ Ok puzzle → FindsFirst puzzle.clues (Some rows) → (row col : ℕ)
    → cell_at rows row col ≤ 1
found_is_low law text puzzle rows read found = (law text puzzle read).two_colours rows found.has_clues

-- A path as text: `r 2 1 2 1=a 3=. stands given 2=a` for a look, with its line, the round, the exclusions, the cells
-- that fell, whether all blocks of the line stood, and the premises.
use Rattle.std.specs.Prelude.{ℕ, ◌+◌, ◌%◌, Bool, true, false, List, [], ◌∷◌, ◌++◌, codes}
use Rattle.std.specs.List.{flat_map}
use Rattle.grade.specs.declared.look.Fall.{Fall}
use Rattle.grade.specs.Paths.{Made}
use Rattle.report_text.specs.ClueText.{letter_of}
use Rattle.report_text.specs.Numbers.{numbers_text}
use Rattle.report_text.specs.ReasonText.{premises_text}
use Rattle.report_text.specs.Shown.{letter}

-- a cell that fell: its place along the line, from 1, and the letter of its colour, one of sixteen
abbrev pub fall_text : Fall → List ℕ
fall_text fall = numbers_text ((fall.place + 1) ∷ []) ++ 61 ∷ letter (fall.colour % 16) ∷ []

-- a word where all blocks of the line stood before the look
abbrev pub stands_text : Bool → List ℕ
stands_text true = codes " stands"
stands_text false = []

abbrev pub look_text : Made → List ℕ
look_text look = letter_of look.line.axis ∷ (numbers_text ((look.line.at + 1) ∷ look.round ∷ look.excluded ∷ [])
    ++ (flat_map fall_text look.falls ++ (stands_text look.stands ++ (premises_text look.premises ++ 10 ∷ []))))

-- a line for each look, and how many cells are open
abbrev pub path_text : List Made → ℕ → List ℕ
path_text looks opened = flat_map look_text looks ++ (codes "open" ++ (numbers_text (opened ∷ []) ++ 10 ∷ []))

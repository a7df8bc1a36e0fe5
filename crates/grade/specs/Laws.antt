-- Laws of runs of line logic: where they end, and with which facts they may start.
use Rattle.std.specs.Prelude.{◌≡◌, ℕ, List}
use Rattle.line_facts.specs.Masks.{Masks}
use Rattle.picture.specs.Picture.{IsPicture}
use Rattle.picture.specs.Rows.{Rows}
use Rattle.clues.specs.ClueBook.{Clues, clues_of}
use Rattle.line_facts.specs.FactSets.{IsBase, IsFacts, IsLeast}
use Rattle.fixpoint.specs.Fillings.{Fills}
use Rattle.grade.specs.Looks.{Look}
use Rattle.grade.specs.Runs.{IsRun}
use Rattle.grade.specs.Starts.{IsStart}

-- If some picture has the clues, and in each cell a colour that is left at the start, a run ends with the least closed
-- facts that hold those at the start.
abbrev pub RunsSettle : Type 0
RunsSettle = (clues : Clues) (start end : Masks) (looks : List Look) (picture : Rows) → Fills clues start picture
    → IsRun clues start looks end → IsLeast clues start end

-- two runs from one start make the same looks, and end with the same facts
abbrev pub RunsAreOne : Type 0
RunsAreOne = (clues : Clues) (start end last : Masks) (looks others : List Look) → IsFacts start
    → IsRun clues start looks end → IsRun clues start others last → (looks ≡ others) × (end ≡ last)

-- The lines exclude each colour that no clue names: the least closed facts that hold the start of a picture's puzzle
-- are the least that hold the base, in which the givens alone exclude colours.
abbrev pub StartsSuffice : Type 0
StartsSuffice = (picture : Rows) (givens : List ℕ) (base start end : Masks) → IsPicture picture
    → IsBase givens picture base → IsStart (clues_of picture) givens picture start
    → IsLeast (clues_of picture) start end → IsLeast (clues_of picture) base end

-- a picture has in each cell a colour that is left at the start of its puzzle
abbrev pub PicturesFillStarts : Type 0
PicturesFillStarts = (picture : Rows) (givens : List ℕ) (start : Masks) → IsPicture picture
    → IsStart (clues_of picture) givens picture start → Fills (clues_of picture) start picture

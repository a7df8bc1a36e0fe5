-- The law of assessments: a puzzle that is said to be fit to be published has exactly one solution, and no flaw.
use Rattle.std.specs.Prelude.{◌≡◌, ℕ, true, List, [], Option, Result, Ok}
use Rattle.picture.specs.declared.document.Document.{Document}
use Rattle.picture.specs.CellSet.{HasCell}
use Rattle.flaws.specs.Alike.{alike_pairs}
use Rattle.flaws.specs.Cells.{has_colour, is_painted}
use Rattle.clues.specs.ClueBook.{clues_of}
use Rattle.clues.specs.Solution.{IsOnlySolution}
use Rattle.assess.specs.Spares.{IsNeededAt}
use Rattle.program_options.specs.declared.assessing.AssessOptions.{AssessOptions}
use Rattle.answers.specs.declared.assessing.Block.{Block}
use Rattle.answers.specs.Assess.{Assesses, Publishes}

-- The document of a puzzle with its published givens is fit to be published. No other picture of that size has its
-- clues and its colours in the givens; some cell is painted; a cell has the background; the colours that are shown do
-- not look alike; and without any of its givens there is another solution, or line logic leaves other cells open.
pub record IsFit (document : Document) : Type 0 where
  pub only : IsOnlySolution (clues_of document.picture) (HasCell document.givens) document.picture
  pub painted : is_painted document.picture ≡ true
  pub background : has_colour 0 document.picture ≡ true
  pub distinct : alike_pairs document.palette document.picture ≡ []
  pub needed : (row col : ℕ) → HasCell document.givens row col → IsNeededAt document.picture document.givens row col

-- the puzzle of a text, with the givens of another text, is fit to be published
pub record IsFitText (file : List ℕ) (givens : Option (List ℕ)) (options : AssessOptions) : Type 0 where
  pub document : Document
  pub publishes : Publishes file givens options (Ok document)
  pub fit : IsFit document

-- what is said to be fit, is
abbrev pub FitPuzzlesAreFit : Type 0
FitPuzzlesAreFit = (file : List ℕ) (givens cert : Option (List ℕ)) (options : AssessOptions) (block : Block)
    → Assesses file givens cert options (Ok block) → block.is_fit ≡ true → IsFitText file givens options

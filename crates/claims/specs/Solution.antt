-- One solution: what the line of a check says of the picture, and what is published of a bench.
use Rattle.std.specs.Prelude.{◌≡◌, ℕ, List, codes, Option, None, Some, Ok}
use Rattle.picture.specs.declared.rgb.Rgb.{Rgb}
use Rattle.picture.specs.Document.{Content}
use Rattle.clues.specs.ClueBook.{clues_of}
use Rattle.clues.specs.Solution.{IsOnlySolution}
use Rattle.ppm_text.specs.Ppm.{ppm_of}
use Rattle.cert_text.specs.declared.cert_line.CellNumber.{CellNumber}
use Rattle.cert_check.specs.Puzzle.{IsUnique}
use Rattle.edits.specs.Design.{Design}
use Rattle.live_audit.specs.Bench.{IsGiven, Seen}
use Rattle.text_check.specs.Check.{IsOnlyPicture, cells_in}
use Rattle.answers.specs.Check.{IsCheckOf}
use Rattle.claims.specs.Laws.{ArePublished, background_in}

-- no cell is given
abbrev pub nowhere : ℕ → ℕ → Type 0
nowhere row col = ⊥

-- The text is read as a picture, and no other picture of
-- that size has its clues: they are enough without givens.
pub record HasOneSolution (file : List ℕ) (background : Option Rgb) : Type 0 where
  pub document : Content
  pub reads_file : ppm_of file background ≡ Ok document
  pub one : IsOnlySolution (clues_of document.rows) nowhere document.rows

-- The texts of the picture and of the givens are read, and no other picture of that size has the picture's clues and
-- its colours in the cells that are published.
pub record IsOnlyPublished (file : List ℕ) (background : Option Rgb) (givens : List ℕ) : Type 0 where
  pub document : Content
  pub cells : List CellNumber
  pub reads_file : ppm_of file background ≡ Ok document
  pub reads_givens : cells_in document.rows givens ≡ Ok cells
  pub is_unique : IsUnique document.rows cells

-- the line of a check where the certificate gives no cell
abbrev pub plain_line : List ℕ
plain_line = codes "certificate accepted\n"

-- Where a check answers Ok, and its line is `certificate accepted` alone, the clues have one solution.
abbrev pub PlainLinesAreOneSolution : Type 0
PlainLinesAreOneSolution = (file : List ℕ) (background : Option Rgb) (cert : List ℕ)
    → IsOnlyPicture file background None cert → IsCheckOf file background None cert (Ok plain_line)
    → HasOneSolution file background

-- a document with no given
abbrev pub GivesNothing : Design → Type 0
GivesNothing d = (row col : ℕ) → IsGiven d row col → ⊥

-- What is published of a bench's document is a picture that is the only one with its
-- clues and its colours in the certificate's givens. Where the document has no given,
-- the line of a check is `certificate accepted` alone, and the clues have one solution.
pub record IsSolved (d : Design) (picture cert : List ℕ) : Type 0 where
  pub only : IsOnlyPicture picture (Some (background_in d)) None cert
  pub plain : GivesNothing d → IsCheckOf picture (Some (background_in d)) None cert (Ok plain_line)
  pub one : GivesNothing d → HasOneSolution picture (Some (background_in d))

abbrev pub PublishedAreSolved : Seen → Type 0
PublishedAreSolved s = (picture cert : List ℕ) → ArePublished s picture cert → IsSolved s.history.document picture cert

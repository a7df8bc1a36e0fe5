-- The laws of certificates that `prove` makes: they are what `check` accepts, and a complete search always decides.
use Rattle.std.specs.Prelude.{◌≡◌, ◌↔◌, ℕ, Bool, true, false, List, [], Option, None, Some, Ok}
use Rattle.picture.specs.declared.rgb.Rgb.{Rgb}
use Rattle.picture.specs.Document.{Content}
use Rattle.picture.specs.Rows.{Rows}
use Rattle.ppm_text.specs.Ppm.{ppm_of}
use Rattle.cert_text.specs.declared.cert_line.CellNumber.{CellNumber}
use Rattle.cert_check.specs.Puzzle.{IsUnique}
use Rattle.program_options.specs.declared.options.ProveOptions.{ProveOptions}
use Rattle.answers.specs.Prove.{IsProveOf, ambiguous_text, given_cells}
use Rattle.text_check.specs.Check.{IsLemmaProofOf, IsOnlyPicture, accepted_text}
use Rattle.answers.specs.Check.{IsCheckOf}
use Rattle.claims.specs.Solution.{HasOneSolution}

-- `check` accepts the text for the file, with the line for a certificate without givens, and the clues of the picture
-- have one solution.
pub record AreVerified (file : List ℕ) (background : Option Rgb) (text : List ℕ) : Type 0 where
  pub check : IsCheckOf file background None text (Ok (accepted_text []))
  pub proof : IsLemmaProofOf file background None text
  pub only : IsOnlyPicture file background None text
  pub one : HasOneSolution file background

-- `check --givens` accepts the text for the file with the same file of givens, and with the colours in these cells the
-- clues of the picture have one solution. The line has the number of the certificate's givens.
pub record AreVerifiedWith (file : List ℕ) (background : Option Rgb) (givens text : List ℕ) : Type 0 where
  pub named : List CellNumber
  pub check : IsCheckOf file background (Some givens) text (Ok (accepted_text named))
  pub proof : IsLemmaProofOf file background (Some givens) text
  pub only : IsOnlyPicture file background (Some givens) text

-- a certificate that `prove` shows for a file, in any form, is accepted
abbrev pub ProofsAreVerified : Type 0
ProofsAreVerified = (file : List ℕ) (options : ProveOptions) (text : List ℕ)
    → IsProveOf file None options (Ok (text, true)) → AreVerified file options.background text

-- and so is one that it shows for a file and a file of givens
abbrev pub PublishedProofsAreVerified : Type 0
PublishedProofsAreVerified = (file givens : List ℕ) (options : ProveOptions) (text : List ℕ)
    → IsProveOf file (Some givens) options (Ok (text, true)) → AreVerifiedWith file options.background givens text

-- What is shown is a certificate exactly if the picture is the only one with its clues and its colours in these cells,
-- and else the word `ambiguous`.
pub record IsDecided (picture : Rows) (cells : List CellNumber) (text : List ℕ) (proves : Bool) : Type 0 where
  pub exact : (proves ≡ true) ↔ IsUnique picture cells
  pub other : proves ≡ false → text ≡ ambiguous_text

-- a complete search decides each picture that is read, with the givens that are read
abbrev pub CompleteSearchesDecide : Type 0
CompleteSearchesDecide = (file : List ℕ) (givens : Option (List ℕ)) (options : ProveOptions) (document : Content)
    (cells : List CellNumber) (text : List ℕ) (proves : Bool) → ppm_of file options.background ≡ Ok document
    → given_cells document.rows givens ≡ Ok cells → options.complete ≡ true
    → IsProveOf file givens options (Ok (text, proves)) → IsDecided document.rows cells text proves

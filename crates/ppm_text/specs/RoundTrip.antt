-- A written text is read again.
use Rattle.std.specs.Prelude.{◌≡◌, Some, Ok}
use Rattle.picture.specs.CellSet.{no_cells}
use Rattle.picture.specs.Document.{Content, first_of, ordered_of}
use Rattle.picture.specs.Palette.{IsPalette}
use Rattle.picture.specs.Picture.{IsPicture}
use Rattle.ppm_text.specs.Ppm.{ppm_of}
use Rattle.ppm_text.specs.Text.{ppm_text}

-- a document without givens
pub record IsUngiven (d : Content) : Type 0 where
  pub palette : IsPalette d.colours
  pub picture : IsPicture d.rows
  pub givens : d.givens ≡ no_cells

-- The written text, read with the document's background passed, gives the ordered form.
abbrev pub IsReadAgain : Content → Type 0
IsReadAgain d = ppm_of (ppm_text d) (Some (first_of d.colours.triples)) ≡ Ok (ordered_of d)

-- The line of a check that accepts what was printed of a document.
use Rattle.std.specs.Prelude.{ℕ, List, Option}
use Rattle.std.specs.Io.KnownBytes.{Appends}
use Rattle.cert_text.specs.declared.cert_line.CellNumber.{CellNumber}
use Rattle.edits.specs.Design.{Design}
use Rattle.live_audit.specs.Certify.{NamesMarks}
use Rattle.text_check.specs.Check.{accepted_text}

-- the line `certificate accepted` was written, with the number of the document's givens if it has some
pub record HasLine (d : Design) (had has : Option (List ℕ)) : Type 0 where
  pub givens : List CellNumber
  pub named : NamesMarks d givens
  pub went_out : Appends had has (accepted_text givens)

-- The names of the errors, and the lines that they carry.
use Rattle.std.specs.Prelude.{ℕ, List, codes}
use Rattle.text_check.specs.declared.givens_fault.GivensFault.{GivensFault}
use Rattle.text_check.specs.declared.givens_fault.GivensFault.TheVariants.{BadLine, Repeated, Place}

abbrev pub name_of : GivensFault → List ℕ
name_of (BadLine line) = codes "BadLine"
name_of (Repeated line) = codes "Repeated"
name_of (Place line) = codes "Place"

abbrev pub line_of : GivensFault → ℕ
line_of (BadLine line) = line
line_of (Repeated line) = line
line_of (Place line) = line

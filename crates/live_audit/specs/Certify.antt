-- Certificates of a document.
use Rattle.std.specs.Prelude.{◌≡◌, ℕ, ◌↔◌, List, [], ◌∷◌, Option, None, Some}
use Rattle.std.specs.List.{Contains}
use Rattle.picture.specs.Rows.{Rows}
use Rattle.picture.specs.Document.{ordered_triples, renumbered_rows}
use Rattle.cert_text.specs.declared.cert_line.CellNumber.{CellNumber}
use Rattle.cert_text.specs.Cert.{AreOrdered, Certificate, IsCert}
use Rattle.certificate.specs.FirstFault.{CertFirstFault}
use Rattle.certificate.specs.MadeCert.{EachExcludes, IsTreeForm}
use Rattle.certificate.specs.Puzzle.{base_of, numbered}
use Rattle.certificate.specs.Tree.{IsProof}
use Rattle.edits.specs.Design.{Design}
use Rattle.live_audit.specs.Bench.{IsGiven}
use Rattle.live_audit.specs.Verdict.{IsOtherFor}

-- the ordered form of a document
abbrev pub ordered : Design → Design
ordered d =
    let order = ordered_triples d.colours.triples d.rows in
    record d { colours = record d.colours { triples = order }; rows = renumbered_rows order d.colours.triples d.rows }

-- exactly the givens of a document, by their numbers, in the order of rows
pub record NamesMarks (d : Design) (cells : List CellNumber) : Type 0 where
  pub in_order : AreOrdered 0 cells
  pub named : (row col : ℕ) → IsGiven d row col ↔ Contains cells (numbered row col)

-- A certificate of a document with exactly its givens: the checker finds no error, so the lines prove the picture, and
-- there is no other. It can be written and is read as itself. Its form is that of a tree. Each `line` excludes
-- something, and no `split` is of a settled cell.
pub record IsCertificateFor (d : Design) (cert : Certificate) : Type 0 where
  pub is_cert : IsCert cert
  pub accepted : CertFirstFault d.rows cert None
  pub proof : IsProof d.rows cert
  pub no_other : (other : Rows) → IsOtherFor d other → ⊥
  pub givens : NamesMarks d cert.givens
  pub form : IsTreeForm cert.form cert.givens
  pub excludes : EachExcludes d.rows (base_of d.rows cert.givens ∷ []) cert.lines

-- a certificate of the ordered document, or there is another picture for it
abbrev pub CertifiesOrdered : Design → Option Certificate → Type 0
CertifiesOrdered d None = (other : Rows) × IsOtherFor (ordered d) other
CertifiesOrdered d (Some cert) = IsCertificateFor (ordered d) cert

-- None: the document has another picture. Some: a certificate of the ordered document; there is no other picture.
abbrev pub Certifies : Design → Option Certificate → Type 0
Certifies d None = (other : Rows) × IsOtherFor d other
Certifies d (Some cert) = IsCertificateFor (ordered d) cert × ((other : Rows) → IsOtherFor d other → ⊥)

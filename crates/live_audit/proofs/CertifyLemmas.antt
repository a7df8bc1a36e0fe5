-- What a certificate that was made proves of a document.
use Rattle.std.proofs.Common.{◌≡◌, ℕ, ◌↔◌, List, Option, None, Some, Result, Ok, Err, IfOk, ap, subst}
use Rattle.picture.specs.Rows.{Rows}
use Rattle.picture.specs.declared.document.Document.{Document}
use Rattle.picture.specs.CellSet.{HasCell}
use Rattle.picture.specs.Content.{content_of}
use Rattle.picture.specs.Document.{AreInside, Content, ordered_of}
use Rattle.clues.specs.ClueBook.{clues_of}
use Rattle.clues.proofs.SolutionLaws.{other_fewer}
use Rattle.cert_text.specs.Cert.{Certificate}
use Rattle.certificate.specs.MadeCert.{Makes}
use Rattle.edits.specs.Design.{Design, design_of}
use Rattle.edits.specs.Laws.{MarksAreGivens}
use Rattle.live_audit.specs.Bench.{IsGiven}
use Rattle.live_audit.specs.Certify.{Certifies, CertifiesOrdered, IsCertificateFor, ordered}
use Rattle.live_audit.specs.Verdict.{IsOtherFor}

-- a certificate of a document, or another picture for it
abbrev MadeFor : Design → Option Certificate → Type 0
MadeFor d None = (other : Rows) × IsOtherFor d other
MadeFor d (Some cert) = IsCertificateFor d cert

made_for : (d : Design) (givens : List ℕ) (made : Option Certificate) → ((row col : ℕ) → HasCell givens row col ↔ IsGiven d row col) → Makes d.rows givens made → MadeFor d made
made_for d givens None g m = (m.0, other_fewer (clues_of d.rows) (HasCell givens) (IsGiven d) d.rows m.0 (λ row col h. (g row col).1 h) m.1)
made_for d givens (Some cert) g m = record {
  is_cert = m.is_cert;
  accepted = m.accepted;
  proof = m.proof;
  no_other = λ other o. m.no_other other (other_fewer (clues_of d.rows) (IsGiven d) (HasCell givens) d.rows other (λ row col h. (g row col).0 h) o);
  givens = record {
    in_order = m.names.ordered;
    named = λ row col. (λ h. (m.names.named row col).0 ((g row col).1 h), λ h. (g row col).0 ((m.names.named row col).1 h));
  };
  form = m.form;
  excludes = m.excludes;
}

-- a certificate of the ordered document is one of the document's ordered form
pub certified : {X : Type 0} → MarksAreGivens → (d o : Document) (result : Result (Option Certificate) X) → AreInside d.givens d.picture → content_of o ≡ ordered_of (content_of d)
    → IfOk result (Makes o.picture o.givens) → IfOk result (CertifiesOrdered (design_of d))
certified {X = X} marks d o result inside e m =
    let rows : o.picture ≡ (ordered (design_of d)).rows = ap (λ (c : Content). c.rows) e in
    let givens : o.givens ≡ d.givens = ap (λ (c : Content). c.givens) e in
    of result (subst (λ (g : List ℕ). IfOk result (Makes (ordered (design_of d)).rows g)) givens (subst (λ (r : List (List ℕ)). IfOk result (Makes r o.givens)) rows m))
  where
    of : (r : Result (Option Certificate) X) → IfOk r (Makes (ordered (design_of d)).rows d.givens) → IfOk r (CertifiesOrdered (design_of d))
    of (Ok None) h = made_for (ordered (design_of d)) d.givens None (marks d.picture d.givens inside) h
    of (Ok (Some cert)) h = made_for (ordered (design_of d)) d.givens (Some cert) (marks d.picture d.givens inside) h
    of (Err e) h = tt

-- the same for the present document of a bench
pub certified_now : {X : Type 0} (result : Result (Option Certificate) X) (d now : Design) → d ≡ now → IfOk result (Certifies d) → IfOk result (Certifies now)
certified_now result d now e c = subst (λ (x : Design). IfOk result (Certifies x)) e c

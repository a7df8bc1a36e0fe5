-- What is made is a certificate, so that there is no other picture, or another picture.
use Rattle.std.proofs.Common.{◌≡◌, ℕ, List, length, ap, sym, ◌∙◌, arith, inl, inr}
use Rattle.std.proofs.lemmas.Bool.{cases_lt}
use Rattle.std.proofs.lemmas.List.{get_or_past}
use Rattle.std.specs.Prelude.{[], None}
use Rattle.picture.specs.CellSet.{HasCell}
use Rattle.picture.specs.Document.{AreInside}
use Rattle.picture.specs.Picture.{IsPicture}
use Rattle.picture.specs.Rows.{width_of, row_at, Rows}
use Rattle.clues.specs.ClueBook.{Clues, clues_of}
use Rattle.clues.specs.Solution.{IsOther}
use Rattle.clues.proofs.SolutionLaws.{other_fewer}
use Rattle.cert_text.specs.declared.cert_line.CellNumber.{CellNumber}
use Rattle.cert_check.specs.Puzzle.{IsNamed, IsUnique}
use Rattle.cert_check.specs.FirstFault.{CertFirstFault}
use Rattle.cert_check.specs.LemmaProof.{IsLemmaProof}
use Rattle.cert_text.specs.declared.form.Form.TheVariants.{LemmaRuns}
use Rattle.cert_text.specs.Cert.{Certificate, IsCert}
use Rattle.lemma_proof.specs.Naming.{NamesGivens}
use Rattle.lemma_proof.specs.Making.{AgreesIn, IsMadeProof}

-- if there is no other picture with the named cells as givens, there is none with those of the set
pub unique_has_no_other : (picture : Rows) (givens : List ℕ) (cells : List CellNumber) → NamesGivens picture givens cells → IsUnique picture cells → (other : Rows)
    → IsOther (clues_of picture) (HasCell givens) picture other → ⊥
unique_has_no_other picture givens cells names unique other o =
    let fewer = other_fewer (clues_of picture) (HasCell givens) (IsNamed cells) picture other (λ row col named. (names.named row col).1 named) o in
    fewer.differs (unique other fewer.solves)

pub accepted : (picture : Rows) (givens : List ℕ) (cert : Certificate) → NamesGivens picture givens cert.givens → cert.form ≡ LemmaRuns → IsCert cert
    → CertFirstFault picture cert None → IsLemmaProof picture cert → IsUnique picture cert.givens → IsMadeProof picture givens LemmaRuns cert
accepted picture givens cert names form can first is unique =
    record { form_is = form; is_cert = can; accepted = first; is_proof = is; unique = unique; no_other = unique_has_no_other picture givens cert.givens names unique; names = names }

-- rows of two pictures of one size have one length
rows_alike : (picture other : Rows) → IsPicture picture → IsPicture other → length other ≡ length picture → width_of other ≡ width_of picture → (row : ℕ)
    → length (row_at other row) ≡ length (row_at picture row)
rows_alike picture other is its tall wide row = elim (cases_lt row (length picture)) [
  | inl l ↦ its.rectangular row (omega arith) ∙ (wide ∙ sym (is.rectangular row l))
  | inr p ↦ ap length (get_or_past other row [] (omega arith) ∙ sym (get_or_past picture row [] p))
]

pub other_found : (clues : Clues) (givens : List ℕ) (picture other : Rows) → clues ≡ clues_of picture → AreInside givens picture → clues_of other ≡ clues → (other ≡ picture → ⊥)
    → AgreesIn givens picture other (length picture) → IsOther (clues_of picture) (HasCell givens) picture other
other_found clues givens picture other its inside has differs agrees = record {
  solves = record {
    is_picture = agrees.is_other;
    rows = agrees.height;
    columns = rows_alike picture other agrees.is_picture agrees.is_other agrees.height agrees.width;
    has_clues = has ∙ its;
    keeps_givens = λ row col given. agrees.agree row col (inside row col given).0 given;
  };
  differs = differs;
}

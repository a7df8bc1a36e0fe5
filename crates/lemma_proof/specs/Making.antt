-- Certificates with lemmas that are made.
use Rattle.std.specs.Prelude.{◌≡◌, ℕ, ◌<◌, List, length, None}
use Rattle.picture.specs.Picture.{IsPicture}
use Rattle.picture.specs.Rows.{width_of, cell_at, Rows}
use Rattle.picture.specs.CellSet.{HasCell}
use Rattle.clues.specs.ClueBook.{clues_of}
use Rattle.clues.specs.Solution.{IsOther}
use Rattle.cert_check.specs.Puzzle.{IsUnique}
use Rattle.cert_check.specs.FirstFault.{CertFirstFault}
use Rattle.cert_check.specs.LemmaProof.{IsLemmaProof}
use Rattle.cert_text.specs.declared.form.Form.{Form}
use Rattle.cert_text.specs.declared.form.Form.TheVariants.{Lemmas, LemmaRuns}
use Rattle.cert_text.specs.Cert.{Certificate, IsCert}
use Rattle.lemma_proof.specs.Naming.{NamesGivens}
use Rattle.lemma_proof.specs.declared.making.Made.{Made}
use Rattle.lemma_proof.specs.declared.making.Made.TheVariants.{Proof, Other, Undecided}

-- A certificate of a form with exactly these givens that proves the picture, and that can be written: no other picture
-- has the clues and, in the certificate's givens or those of the set, which are the same, the colours.
pub record IsMadeProof (picture : Rows) (givens : List ℕ) (form : Form) (cert : Certificate) : Type 0 where
  pub form_is : cert.form ≡ form
  pub is_cert : IsCert cert
  pub accepted : CertFirstFault picture cert None
  pub is_proof : IsLemmaProof picture cert
  pub unique : IsUnique picture cert.givens
  pub no_other : (other : Rows) → IsOther (clues_of picture) (HasCell givens) picture other → ⊥
  pub names : NamesGivens picture givens cert.givens

-- a certificate, or another picture with the clues and the picture's colours in the givens, or neither
abbrev pub Makes : Rows → List ℕ → Made → Type 0
Makes picture givens (Proof cert) = IsMadeProof picture givens LemmaRuns cert
Makes picture givens (Other other) = IsOther (clues_of picture) (HasCell givens) picture other
Makes picture givens Undecided = Unit {0}

-- this certificate itself, or that it does not prove the picture or cannot be written
abbrev pub IsMadeOf : Rows → Certificate → Made → Type 0
IsMadeOf picture cert (Proof made) = made ≡ cert
IsMadeOf picture cert (Other other) = ⊥
IsMadeOf picture cert Undecided = IsLemmaProof picture cert → IsCert cert → ⊥

-- what is made in the form `LemmaRuns` is as good in the form `Lemmas`
abbrev pub IsAsGood : Certificate → Certificate → Type 0
IsAsGood cert one = (picture : Rows) (givens : List ℕ) → IsMadeProof picture givens LemmaRuns cert
    → IsMadeProof picture givens Lemmas one

-- two pictures of one size have the same colours in some cells of their first rows
pub record AgreesIn (cells : List ℕ) (picture other : Rows) (rows : ℕ) : Type 0 where
  pub is_picture : IsPicture picture
  pub is_other : IsPicture other
  pub height : length other ≡ length picture
  pub width : width_of other ≡ width_of picture
  pub agree : (row col : ℕ) → row < rows → HasCell cells row col → cell_at other row col ≡ cell_at picture row col

-- What a search for a certificate finds.
use Rattle.std.specs.Prelude.{◌≡◌, ℕ, List}
use Rattle.picture.specs.Rows.{Rows}
use Rattle.picture.specs.CellSet.{HasCell}
use Rattle.clues.specs.ClueBook.{clues_of}
use Rattle.clues.specs.Solution.{IsOther}
use Rattle.cert_text.specs.declared.form.Form.{Form}
use Rattle.cert_text.specs.declared.form.Form.TheVariants.{Tree, GivenTree, Lemmas, LemmaRuns}
use Rattle.lemma_proof.specs.Making.{IsMadeProof}
use Rattle.lemma_proof.specs.declared.making.Made.{Made}
use Rattle.lemma_proof.specs.declared.making.Made.TheVariants.{Proof, Other, Undecided}
use Rattle.certificate.specs.declared.proving.Reach.{Reach}
use Rattle.certificate.specs.declared.proving.Reach.TheVariants.{Bounded}

-- the forms of certificates that are found: trees, and the newest form with lemmas
abbrev pub IsFoundForm : Form → Type 0
IsFoundForm Tree = Unit {0}
IsFoundForm GivenTree = Unit {0}
IsFoundForm Lemmas = ⊥
IsFoundForm LemmaRuns = Unit {0}

-- A certificate with exactly these givens that proves the picture, or another picture with the clues and the picture's
-- colours in the givens; neither only where the search has bounds.
abbrev pub Finds : Rows → List ℕ → Reach → Made → Type 0
Finds picture givens reach (Proof cert) = IsMadeProof picture givens cert.form cert × IsFoundForm cert.form
Finds picture givens reach (Other other) = IsOther (clues_of picture) (HasCell givens) picture other
Finds picture givens reach Undecided = reach ≡ Bounded

-- what is found is what was made before, where that was decided
abbrev pub IsDecided : Made → Made → Type 0
IsDecided Undecided found = Unit {0}
IsDecided made found = found ≡ made

-- it is undecided only where both were
abbrev pub AreDecided : Made → Made → Made → Type 0
AreDecided first second Undecided = (first ≡ Undecided) × (second ≡ Undecided)
AreDecided first second made = Unit {0}

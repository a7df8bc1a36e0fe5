-- What trees decide at the root of a certificate, and what is found there.
use Rattle.std.proofs.Common.{◌≡◌, ◌⊎◌, ℕ, List, [], ◌∷◌, Some, refl, sym, subst, ◌∙◌, inl, inr}
use Rattle.picture.specs.CellSet.{HasCell}
use Rattle.picture.specs.Rows.{Rows}
use Rattle.clues.specs.ClueBook.{clues_of}
use Rattle.clues.specs.Solution.{IsOther}
use Rattle.line_facts.specs.Masks.{Masks}
use Rattle.line_facts.specs.FactSets.{SameShape}
use Rattle.cert_text.specs.declared.cert_line.CellNumber.{CellNumber}
use Rattle.cert_text.specs.declared.cert_line.CertLine.{CertLine}
use Rattle.cert_text.specs.declared.form.Form.{Form}
use Rattle.cert_text.specs.declared.form.Form.TheVariants.{Tree, GivenTree, Lemmas, LemmaRuns}
use Rattle.cert_text.specs.Cert.{Certificate, IsCert}
use Rattle.cert_check.proofs.LemmaExactness.{none_is_proof}
use Rattle.lemma_proof.specs.Making.{Makes}
use Rattle.lemma_proof.specs.declared.making.Made.{Made}
use Rattle.lemma_proof.specs.declared.making.Made.TheVariants.{Proof, Other, Undecided}
use Rattle.second_search.specs.declared.scene.Scene.{Scene}
use Rattle.second_search.specs.Trees.{IsOtherIn, Walks}
use Rattle.certificate.specs.Finding.{Finds, IsFoundForm}
use Rattle.certificate.specs.Growths.{AreFewFor, DecidesByTrees}
use Rattle.certificate.specs.MadeCert.{IsMade, IsTreeForm, WritesTree}
use Rattle.certificate.specs.Roots.{IsRoot}
use Rattle.certificate.specs.declared.proving.Candidate.{Candidate}
use Rattle.certificate.specs.declared.proving.Reach.{Reach}
use Rattle.certificate.specs.declared.proving.Reach.TheVariants.{Bounded}
use Rattle.certificate.specs.declared.trees.Growth.{Growth}
use Rattle.certificate.proofs.MadeLemmas.{few_alike, other_made, some_made}
use Rattle.certificate.proofs.MakeLemmas.{other_fills, whole_tree}

-- facts of the picture's shape have as many lines
pub few_for : (growth : Growth) (picture facts : Masks) (before after : ℕ) → SameShape picture facts → AreFewFor growth facts before after → AreFewFor growth picture before after
few_for growth picture facts before after s few = λ bounded. few_alike picture facts growth.bound before after s (few bounded)

module _ (scene : Scene) (cells : List CellNumber) (longest : ℕ) (root : IsRoot scene cells longest) where
  -- the lines of a tree
  pub tree_written : (lines : List CertLine) → Walks scene.clues.now scene.picture.now lines (scene.facts.now ∷ []) [] → WritesTree scene.picture.now scene.facts.now (Some lines)
  tree_written lines walks = whole_tree scene.picture.now scene.facts.now scene.clues.now longest lines root.can root.is_scene.sound.same_shape walks

  -- the certificate of a tree
  pub tree_made : (lines : List CertLine) (cert : Certificate) → Walks scene.clues.now scene.picture.now lines (scene.facts.now ∷ []) [] → IsCert cert → cert.givens ≡ cells → cert.lines ≡ lines
      → IsTreeForm cert.form cells → IsMade scene.picture.now scene.givens.now cert
  tree_made lines cert walks can g l form =
      some_made scene.picture.now scene.facts.now scene.givens.now cells lines cert root.can.is_picture root.names root.base (tree_written lines walks) can g l form

  -- another picture
  pub other_decided : (other : Rows) → IsOtherIn scene.clues.now scene.picture.now scene.facts.now other → IsOther (clues_of scene.picture.now) (HasCell scene.givens.now) scene.picture.now other
  other_decided other is_other =
      other_made scene.picture.now scene.facts.now scene.givens.now cells other root.can.is_picture root.inside root.names root.is_scene.sound.same_shape root.base
      (other_fills scene.picture.now scene.facts.now other scene.clues.now longest root.can is_other)

-- ---- what is found

found_form : (form : Form) (givens : List CellNumber) → IsTreeForm form givens → IsFoundForm form
found_form Tree givens f = tt
found_form GivenTree givens f = tt
found_form Lemmas givens f = absurd f
found_form LemmaRuns givens f = absurd f

-- what trees decide is found, and without a bound they decide
pub trees_find : (picture : Rows) (givens : List ℕ) (growth : Growth) (before after : ℕ) (reach : Reach) (made : Made) → growth.reach ≡ reach
    → DecidesByTrees picture givens growth before after made → Finds picture givens reach made
trees_find picture givens growth before after reach (Proof cert) same m = (
  record {
    form_is = refl;
    is_cert = m.is_cert;
    accepted = m.accepted;
    is_proof = none_is_proof picture cert m.accepted;
    unique = m.unique;
    no_other = m.no_other;
    names = m.names;
  },
  found_form cert.form cert.givens m.form,
)
trees_find picture givens growth before after reach (Other other) same is = is
trees_find picture givens growth before after reach Undecided same reached = sym same ∙ reached.0

-- what is made with lemmas is found within bounds
pub lemmas_find : (picture : Rows) (givens : List ℕ) (made : Made) → Makes picture givens made → Finds picture givens Bounded made
lemmas_find picture givens (Proof cert) m = (
  record { form_is = refl; is_cert = m.is_cert; accepted = m.accepted; is_proof = m.is_proof; unique = m.unique; no_other = m.no_other; names = m.names },
  (let P : Form → Type 0 = IsFoundForm in subst P (sym m.form_is) tt),
)
lemmas_find picture givens (Other other) is = is
lemmas_find picture givens Undecided u = refl

-- of two candidates that are found, the one that is taken is found
pub taken_found : (picture : Rows) (givens : List ℕ) (reach : Reach) (taken one other : Candidate) → (taken ≡ one) ⊎ (taken ≡ other) → Finds picture givens reach one.made
    → Finds picture givens reach other.made → Finds picture givens reach taken.made
taken_found picture givens reach taken one other (inl e) f g = rw e f
taken_found picture givens reach taken one other (inr e) f g = rw e g

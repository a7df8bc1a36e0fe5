-- What the maker answers: a certificate, or that there is another picture.
use Rattle.std.proofs.Common.{◌≡◌, ℕ, ◌+◌, ◌*◌, ◌≤◌, true, List, [], ◌∷◌, Option, None, Some, is_some, length, refl, sym, ap, subst, ◌∙◌, arith}
use Rattle.picture.specs.CellSet.{HasCell}
use Rattle.picture.specs.Document.{AreInside}
use Rattle.picture.specs.Picture.{IsPicture}
use Rattle.picture.specs.Rows.{width_of, cell_at, Rows}
use Rattle.std.specs.Prelude.{IfSome}
use Rattle.std.specs.List.{AllByRecursion}
use Rattle.line_facts.specs.Masks.{Masks}
use Rattle.clues.specs.ClueBook.{Clues, clues_of}
use Rattle.clues.specs.Solution.{IsOther}
use Rattle.fixpoint.specs.Fillings.{Fills}
use Rattle.line_facts.specs.FactSets.{Leaves, SameShape, nothing_excluded}
use Rattle.line_facts.proofs.GridLaws.{full_shape, shape_sym, shape_trans}
use Rattle.cert_text.specs.declared.cert_line.CellNumber.{CellNumber}
use Rattle.cert_text.specs.declared.cert_line.CertLine.{CertLine}
use Rattle.second_search.specs.Evaluations.{most_in_tree}
use Rattle.second_search.specs.Laws.{SoundFacts}
use Rattle.second_search.specs.Other.{AreSound}
use Rattle.second_search.specs.Parts.{IsScene}
use Rattle.cert_text.specs.declared.form.Form.{Form}
use Rattle.cert_text.specs.declared.form.Form.TheVariants.{Tree, GivenTree, Lemmas, LemmaRuns}
use Rattle.cert_text.specs.Cert.{AreOfForm, AreOrdered, Certificate, IsCert, IsOfTree, certificate}
use Rattle.cert_check.specs.FirstFault.{CertFirstFault}
use Rattle.cert_check.specs.TreeFault.{TreeFault}
use Rattle.certificate.specs.MadeCert.{BasesAreOne, HasOther, IsMade, IsTreeForm, WritesTree}
use Rattle.certificate.proofs.AcceptedLemmas.{tree_accepted}
use Rattle.lemma_proof.specs.Naming.{NamesGivens}
use Rattle.lemma_proof.proofs.MakingLemmas.{unique_has_no_other}
use Rattle.cert_check.specs.Puzzle.{base_of, with_givens}
use Rattle.cert_check.proofs.BaseLemmas.{given_left}
use Rattle.cert_check.proofs.TreeExactness.{none_is_tree}
use Rattle.cert_check.proofs.Soundness.{proof_is_unique}

pub other_made : (picture : Rows) (start : Masks) (givens : List ℕ) (cells : List CellNumber) (other : Rows) → IsPicture picture → AreInside givens picture → NamesGivens picture givens cells
    → SameShape picture start → start ≡ with_givens picture cells (nothing_excluded (length picture) (width_of picture))
    → Fills (clues_of picture) start other × (other ≡ picture → ⊥) → IsOther (clues_of picture) (HasCell givens) picture other
other_made picture start givens cells other is inside names shape e w =
    let fills = w.0 in
    let same : SameShape picture other = shape_trans shape (shape_sym fills.same_shape) in
    record {
      solves = record {
        is_picture = fills.is_picture;
        rows = sym same.rows;
        columns = λ row. sym (same.each row);
        has_clues = fills.has_clues;
        keeps_givens = λ row col has.
            let i = inside row col has in
            let c = same.each row in
            let q = is.rectangular row i.0 in
            let l : Leaves start row col (cell_at other row col) = fills.leaves row col (let h = i.1 in omega arith) in
            given_left picture (nothing_excluded (length picture) (width_of picture)) cells row col (cell_at other row col) ((names.named row col).0 has) (rw e at l);
      };
      differs = w.1;
    }

-- ---- no other picture

pub some_made : (picture : Rows) (start : Masks) (givens : List ℕ) (cells : List CellNumber) (lines : List CertLine) (cert : Certificate) → IsPicture picture → NamesGivens picture givens cells
    → start ≡ base_of picture cells → WritesTree picture start (Some lines) → IsCert cert → cert.givens ≡ cells → cert.lines ≡ lines → IsTreeForm cert.form cells → IsMade picture givens cert
some_made picture start givens cells lines cert is names root t c g l v =
    let tree : AllByRecursion IsOfTree lines = t.0 in
    let named : NamesGivens picture givens cert.givens = rw g names in
    let none : TreeFault picture (base_of picture cert.givens ∷ []) 0 cert.lines None = rw (g, l, ← root) (t.1 0) in
    let accepted : CertFirstFault picture cert None = tree_accepted picture cert named.inside none in
    let proof = none_is_tree picture cert (rw l tree) accepted in
    let unique = proof_is_unique picture cert is proof in
    record {
      is_cert = c;
      accepted = accepted;
      proof = proof;
      unique = unique;
      no_other = unique_has_no_other picture givens cert.givens named unique;
      names = named;
      form = rw g v;
      excludes = rw (g, l, ← root) t.2;
    }

-- the certificate of a tree can be written
pub tree_cert : (form : Form) (givens : List CellNumber) (lines : List CertLine) (runs : List ℕ) (cert : Certificate) → cert ≡ certificate form givens lines runs → runs ≡ [] → IsTreeForm form givens
    → AreOrdered 0 givens → AreOfForm Tree lines → IsCert cert
tree_cert Tree givens lines runs cert e r t o l = subst IsCert (sym e) (record { givens = t; lines = l; runs = r })
tree_cert GivenTree givens lines runs cert e r t o l = let all : AreOfForm GivenTree lines = l in subst IsCert (sym e) (record { givens = o; lines = all; runs = r })
tree_cert Lemmas givens lines runs cert e r t o l = absurd t
tree_cert LemmaRuns givens lines runs cert e r t o l = absurd t

-- ---- the root of a certificate

-- the facts at the root, as they were made
pub root_is : (picture : Rows) (blank start : Masks) (cells : List CellNumber) (height width : ℕ) → height ≡ length picture → width ≡ width_of picture → blank ≡ nothing_excluded height width
    → start ≡ with_givens picture cells blank → start ≡ base_of picture cells
root_is picture blank start cells height width h w b e =
    e ∙ ap (with_givens picture cells) (b ∙ (ap (λ (n : ℕ). nothing_excluded n width) h ∙ ap (nothing_excluded (length picture)) w))

pub blank_shape : (picture : Rows) (blank : Masks) (height width : ℕ) → IsPicture picture → height ≡ length picture → width ≡ width_of picture → blank ≡ nothing_excluded height width
    → SameShape picture blank
blank_shape picture blank height width is h w b =
    subst (SameShape picture) (sym (b ∙ (ap (λ (n : ℕ). nothing_excluded n width) h ∙ ap (nothing_excluded (length picture)) w))) (full_shape picture is)

pub root_scene : BasesAreOne → SoundFacts → (picture : Rows) (start : Masks) (givens : List ℕ) (cells : List CellNumber) → IsPicture picture → NamesGivens picture givens cells
    → start ≡ base_of picture cells → IsScene (clues_of picture) givens start picture
root_scene bases sound picture start givens cells is names root =
    let P : List (List ℕ) → Type 0 = AreSound (clues_of picture) givens picture in
    record {
      is_picture = is;
      has_clues = refl;
      sound = subst P (sym root) (sound.base (clues_of picture) givens picture (base_of picture cells) is (bases picture givens cells is names));
    }

pub near_other : (picture : Rows) (givens : List ℕ) (clues : Clues) (near : Option (List (List ℕ))) → clues ≡ clues_of picture → IfSome near (IsOther clues (HasCell givens) picture)
    → is_some near ≡ true → HasOther picture givens
near_other picture givens clues None c h e = absurd (cc e)
near_other picture givens clues (Some other) c h e = let Q : Clues → Type 0 = λ k. IsOther k (HasCell givens) picture other in (other, subst Q c h)

-- facts of the picture's shape have as many lines
pub few_alike : (picture facts : Masks) (bound before after : ℕ) → SameShape picture facts → after ≤ before + 2 * most_in_tree facts bound → after ≤ before + 2 * most_in_tree picture bound
unfolding most_in_tree
few_alike picture facts bound before after s few =
    let rows = s.rows in
    let columns = s.each 0 in
    omega arith

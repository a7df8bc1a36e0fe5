-- What is shown for what was made with these givens: the text of a certificate is read as the same certificate.
use Rattle.std.proofs.Common.{◌≡◌, ℕ, ◌+◌, ◌-◌, ◌<◌, Bool, true, false, List, [], ◌∷◌, Result, Ok, Err, IfOk, OnOk, Vec, Global, refl, ap, subst, sym, ◌∙◌, arith, inl, inr}
use Rattle.std.specs.List.{AllByRecursion, Contains}
use Rattle.picture.specs.CellSet.{HasCell}
use Rattle.picture.specs.Rows.{Rows}
use Rattle.clues.specs.ClueBook.{clues_of}
use Rattle.clues.specs.Solution.{IsOther}
use Rattle.clues.proofs.SolutionLaws.{other_fewer}
use Rattle.cert_text.specs.Cert.{Certificate}
use Rattle.cert_text.specs.declared.cert_line.CellNumber.{CellNumber}
use Rattle.cert_text.specs.declared.form.Form.{Form}
use Rattle.cert_text.specs.declared.form.Form.TheVariants.{Tree, GivenTree, Lemmas, LemmaRuns}
use Rattle.cert_text.proofs.RoundTrip.{is_read_again}
use Rattle.cert_text.specs.Reading.{cert_of}
use Rattle.cert_text.specs.WrittenCert.{cert_text}
use Rattle.cert_check.specs.Puzzle.{HasCellNumber, IsNamed, numbered}
use Rattle.cert_check.proofs.AmongLemmas.{among_first, among_rest}
use Rattle.certificate.specs.Finding.{Finds, IsFoundForm}
use Rattle.certificate.specs.declared.proving.Reach.{Reach}
use Rattle.certificate.specs.declared.proving.Reach.TheVariants.{Bounded}
use Rattle.text_check.specs.Givens.{IsSetOf}
use Rattle.lemma_proof.specs.declared.making.Made.{Made}
use Rattle.lemma_proof.specs.declared.making.Made.TheVariants.{Proof, Other, Undecided}
use Rattle.lemma_proof.specs.Making.{IsAsGood, IsMadeProof}
use Rattle.lemma_proof.specs.Naming.{NamesGivens}
use Rattle.program_options.specs.declared.options.ProveOptions.{ProveOptions}
use Rattle.answers.specs.Prove.{HasAnother, IsAskedForm, IsCertShown, IsShownFor, Proves, shown_form}

-- ---- the text of a certificate in its forms

pub shown_single : {E : Type 0} (single : Bool) (cert one : Certificate) (text : List ℕ) (r : Result (Unit {0}) E) → single ≡ true → cert.form ≡ LemmaRuns → IsAsGood cert one
    → OnOk r (text ≡ cert_text one) → OnOk r (IsCertShown single cert text)
shown_single single cert one text (Err e) is form good written = tt
shown_single single cert one text (Ok done) is form good written =
    let P : Bool → Form → Type 0 = λ b f. (picture : Rows) (givens : List ℕ) → IsMadeProof picture givens f cert → IsMadeProof picture givens (shown_form b f) one in
    (one, (subst (λ (b : Bool). P b cert.form) (sym is) (subst (P true) (sym form) good), written))

-- a tree, or a certificate with lemmas whose lines have several steps
same_form : (single : Bool) (form : Form) → (single ≡ true → form ≡ LemmaRuns → ⊥) → shown_form single form ≡ form
same_form true Tree not = refl
same_form true GivenTree not = refl
same_form true Lemmas not = refl
same_form true LemmaRuns not = absurd (not refl refl)
same_form false Tree not = refl
same_form false GivenTree not = refl
same_form false Lemmas not = refl
same_form false LemmaRuns not = refl

pub shown_as_it_is : {E : Type 0} (single : Bool) (cert : Certificate) (text : List ℕ) (r : Result (Unit {0}) E) → (single ≡ true → cert.form ≡ LemmaRuns → ⊥) → OnOk r (text ≡ cert_text cert)
    → OnOk r (IsCertShown single cert text)
shown_as_it_is single cert text (Err e) not written = tt
shown_as_it_is single cert text (Ok done) not written =
    (cert, ((λ picture givens made. subst (λ (f : Form). IsMadeProof picture givens f cert) (sym (same_form single cert.form not)) made), written))

pub ruleset forms_shown = (shown_single, shown_as_it_is)

-- the form of what is shown is one that was asked for
asked_form : (single : Bool) (form : Form) → IsFoundForm form → IsAskedForm single (shown_form single form)
asked_form true Tree f = tt
asked_form true GivenTree f = tt
asked_form true Lemmas f = absurd f
asked_form true LemmaRuns f = refl
asked_form false Tree f = tt
asked_form false GivenTree f = tt
asked_form false Lemmas f = absurd f
asked_form false LemmaRuns f = refl

-- ---- the givens

same_number : (cell : CellNumber) → 0 < cell.row → 0 < cell.col → numbered (cell.row - 1) (cell.col - 1) ≡ cell
same_number cell r c =
    let row : cell.row - 1 + 1 ≡ cell.row = omega (arith, r) in
    let col : cell.col - 1 + 1 ≡ cell.col = omega (arith, c) in
    λ i. record { row = row i; col = col i }

-- cells by their numbers that are in the picture are among others where these name the same places
all_among : (picture : Rows) (cells givens : List CellNumber) → AllByRecursion (HasCellNumber picture) givens → ((row col : ℕ) → IsNamed givens row col → IsNamed cells row col)
    → AllByRecursion (Contains cells) givens
all_among picture cells givens inside named = by givens inside (λ cell among. among)
  where
    by : (some : List CellNumber) → AllByRecursion (HasCellNumber picture) some → ((cell : CellNumber) → Contains some cell → Contains givens cell) → AllByRecursion (Contains cells) some
    by [] its from = tt
    by (cell ∷ more) its from =
        let is = same_number cell its.0.0 its.0.2 in
        let there : IsNamed givens (cell.row - 1) (cell.col - 1) = subst (Contains givens) (sym is) (from cell (among_first cell cell more refl)) in
        (subst (Contains cells) is (named (cell.row - 1) (cell.col - 1) there), by more its.1 (λ other among. from other (among_rest other cell more among)))

-- ---- what is made

module _ (picture : Rows) (set : List ℕ) (cells : List CellNumber) (are : IsSetOf set cells) (options : ProveOptions) where
  cert_shown : (cert : Certificate) (text : List ℕ) → IsMadeProof picture set cert.form cert → IsFoundForm cert.form → IsCertShown options.single cert text → Proves picture cells options text true
  cert_shown cert text made form (shown, (turns, written)) =
      let m = turns picture set made in
      record {
        cert = shown;
        reads = ap cert_of written ∙ is_read_again shown m.is_cert;
        form = subst (IsAskedForm options.single) (sym m.form_is) (asked_form options.single cert.form form);
        accepted = m.accepted;
        is_proof = m.is_proof;
        set = set;
        is_set = are;
        published = all_among picture cells shown.givens m.names.inside (λ row col given. (are row col).0 ((m.names.named row col).1 given));
        all_given = λ row col named. (m.names.named row col).0 ((are row col).1 named);
        unique = λ other solves. m.unique other (record {
          is_picture = solves.is_picture;
          rows = solves.rows;
          columns = solves.columns;
          has_clues = solves.has_clues;
          keeps_givens = λ row col given. solves.keeps_givens row col ((are row col).0 ((m.names.named row col).1 given));
        });
      }

  another : (other : Rows) → IsOther (clues_of picture) (HasCell set) picture other → HasAnother picture cells
  another other is = (other, other_fewer (clues_of picture) (HasCell set) (IsNamed cells) picture other (λ row col named. (are row col).1 named) is)

  made_shown : (reach : Reach) (made : Made) (text : List ℕ) (proves : Bool) → (reach ≡ Bounded → options.complete ≡ false) → Finds picture set reach made
      → IsShownFor options.single made text proves → Proves picture cells options text proves
  made_shown reach (Proof cert) text proves bounded finds (shown, is) = subst (Proves picture cells options text) (sym is) (cert_shown cert text finds.0 finds.1 shown)
  made_shown reach (Other other) text proves bounded finds (shown, is) = subst (Proves picture cells options text) (sym is) (inl (shown, another other finds))
  made_shown reach Undecided text proves bounded finds (shown, is) = subst (Proves picture cells options text) (sym is) (inr (shown, bounded finds))

pub made_shown_in : {E : Type 0} (picture : Rows) (set : List ℕ) (options : ProveOptions) (reach : Reach) (made : Made) (r : Result (Vec ℕ Global × Bool) E)
    → (reach ≡ Bounded → options.complete ≡ false) → Finds picture set reach made → IfOk r (λ shown. IsShownFor options.single made shown.0.items shown.1)
    → IfOk r (λ shown. (cells : List CellNumber) → IsSetOf set cells → Proves picture cells options shown.0.items shown.1)
made_shown_in picture set options reach made (Err e) bounded finds shows = tt
made_shown_in picture set options reach made (Ok shown) bounded finds shows = λ cells are. made_shown picture set cells are options reach made shown.0.items shown.1 bounded finds shows

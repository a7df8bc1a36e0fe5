-- What an assessment that says `fit` says of its puzzle.
use Rattle.std.proofs.Common.{◌≡◌, ◌∙◌, ◌==◌, ◌&&◌, ◌||◌, ℕ, Bool, true, false, List, [], Option, None, Some, Result, Ok, Err, inl, inr, length, not, refl, subst, sym}
use Rattle.std.proofs.lemmas.Bool.{eqb-true}
use Rattle.std.proofs.lemmas.List.{nil_from_length}
use Rattle.std.specs.Prelude.{is_some}
use Rattle.picture.specs.declared.document.Document.{Document}
use Rattle.picture.specs.CellSet.{HasCell}
use Rattle.picture.specs.Rows.{Rows}
use Rattle.clues.specs.ClueBook.{clues_of}
use Rattle.clues.specs.Solution.{IsOnlySolution}
use Rattle.flaws.specs.Cells.{has_colour, is_painted}
use Rattle.cert_text.specs.declared.fault.CertFault.{CertFault}
use Rattle.cert_text.specs.Cert.{Certificate}
use Rattle.cert_text.specs.Reading.{cert_of}
use Rattle.trail.specs.declared.cell.Cell.{Cell}
use Rattle.assess.specs.declared.assessment.Assessment.{Assessment}
use Rattle.assess.specs.declared.assessment.Verdict.{Verdict}
use Rattle.assess.specs.declared.assessment.Verdict.TheVariants.{Unique, Ambiguous, Undecided}
use Rattle.assess.specs.Assessed.{IsAssessment, IsDescribed, IsSpareIf, has_flaw, is_fit, is_unique}
use Rattle.assess.specs.Judging.{IsVerdict}
use Rattle.assess.specs.Spares.{IsNeededAt, IsSpare}
use Rattle.program_options.specs.declared.assessing.AssessOptions.{AssessOptions}
use Rattle.answers.specs.Assess.{Finds, FindsBy}
use Rattle.claims.specs.Fit.{FitPuzzlesAreFit, IsFit}

-- ---- no flaw

both : (a b : Bool) → (a && b) ≡ true → (a ≡ true) × (b ≡ true)
both true b e = (refl, e)
both false b e = absurd cc

neither : (a b : Bool) → not (a || b) ≡ true → (not a ≡ true) × (not b ≡ true)
neither true b e = absurd cc
neither false b e = (refl, e)

twice : (a : Bool) → not (not a) ≡ true → a ≡ true
twice true e = refl
twice false e = absurd cc

empty : {X : Type 0} (xs : List X) → not (not (length xs == 0)) ≡ true → xs ≡ []
empty xs e = nil_from_length xs (eqb-true (length xs) 0 (twice (length xs == 0) e))

-- what is found of a puzzle that is fit
pub record HasNoFlaw (found : Assessment) : Type 0 where
  pub unique : is_unique found.verdict ≡ true
  pub painted : not found.is_blank ≡ true
  pub background : not found.lacks_background ≡ true
  pub needed : not (is_some found.spare) ≡ true
  pub distinct : found.alike.items ≡ []

no_flaw : (found : Assessment) → is_fit found ≡ true → HasNoFlaw found
no_flaw found fit =
    let parts = both (is_unique found.verdict) (not (has_flaw found)) fit in
    let one = neither found.is_blank (found.lacks_background || (is_some found.spare || not (length found.alike.items == 0))) parts.1 in
    let two = neither found.lacks_background (is_some found.spare || not (length found.alike.items == 0)) one.1 in
    let three = neither (is_some found.spare) (not (length found.alike.items == 0)) two.1 in
    record { unique = parts.0; painted = one.0; background = two.0; needed = three.0; distinct = empty found.alike.items three.1 }

none_spare : (picture : Rows) (givens : List ℕ) (spare : Option Cell) → not (is_some spare) ≡ true → IsSpare picture givens spare → (row col : ℕ) → HasCell givens row col
    → IsNeededAt picture givens row col
none_spare picture givens None none is = is
none_spare picture givens (Some cell) none is = absurd cc

-- a puzzle without a flaw, of which the rest is known
fit_by : (document : Document) (found : Assessment) → HasNoFlaw found → IsDescribed document found → IsOnlySolution (clues_of document.picture) (HasCell document.givens) document.picture
    → IsSpare document.picture document.givens found.spare → IsFit document
fit_by document found none described only spare = record {
  only = only;
  painted = twice (is_painted document.picture) (subst (λ (b : Bool). not b ≡ true) described.blank none.painted);
  background = twice (has_colour 0 document.picture) (subst (λ (b : Bool). not b ≡ true) described.background none.background);
  distinct = sym described.alike ∙ none.distinct;
  needed = none_spare document.picture document.givens found.spare none.needed spare;
}

-- ---- by a search

only_by : (picture : Rows) (givens : List ℕ) (allowance : Option ℕ) (verdict : Verdict) → is_unique verdict ≡ true → IsVerdict picture givens allowance verdict
    → IsOnlySolution (clues_of picture) (HasCell givens) picture
only_by picture givens allowance Unique e is = is.1
only_by picture givens allowance (Ambiguous other) e is = absurd cc
only_by picture givens allowance Undecided e is = absurd cc

spare_by : (picture : Rows) (givens : List ℕ) (verdict : Verdict) (spare : Option Cell) → is_unique verdict ≡ true → IsSpareIf picture givens verdict spare → IsSpare picture givens spare
spare_by picture givens Unique spare e is = is
spare_by picture givens (Ambiguous other) spare e is = absurd cc
spare_by picture givens Undecided spare e is = absurd cc

searched : (document : Document) (allowance : Option ℕ) (found : Assessment) → is_fit found ≡ true → IsAssessment document allowance found → IsFit document
searched document allowance found fit is =
    let none = no_flaw found fit in
    fit_by document found none is.described (only_by document.picture document.givens allowance found.verdict none.unique is.verdict)
    (spare_by document.picture document.givens found.verdict found.spare none.unique is.spare)

-- ---- by a certificate

certified : (document : Document) (read : Result Certificate CertFault) (found : Assessment) → is_fit found ≡ true → FindsBy document read (Ok found) → IsFit document
certified document (Err fault) found fit is = absurd cc
certified document (Ok cert) found fit is = fit_by document found (no_flaw found fit) is.described is.unique is.spare

-- ---- the block

fit_found : (document : Document) (cert : Option (List ℕ)) (options : AssessOptions) (found : Assessment) → is_fit found ≡ true → Finds document cert options (Ok found) → IsFit document
fit_found document None options found fit finds = searched document options.allowance found fit finds
fit_found document (Some text) options found fit (inl short) = absurd cc
fit_found document (Some text) options found fit (inr is) = certified document (cert_of text) found fit is

pub fit_is_fit : FitPuzzlesAreFit
fit_is_fit file givens cert options block is fit = record {
  document = is.document;
  publishes = is.publishes;
  fit = fit_found is.document cert options is.found (sym is.fit ∙ fit) is.finds;
}

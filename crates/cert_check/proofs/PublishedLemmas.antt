-- Givens that are published, one by one.
use Rattle.std.proofs.Common.{◌≡◌, ℕ, ◌+◌, ◌-◌, ◌<◌, List, [], ◌∷◌, Option, None, Some, Result, Ok, Err, length, get_or, drop, drop-cons, add-one, refl, ap, arith, inl, inr}
use Rattle.std.specs.Prelude.{IfErr, OnOk}
use Rattle.std.specs.List.{AllByRecursion, Contains}
use Rattle.picture.specs.CellSet.{HasCell}
use Rattle.picture.specs.Rows.{Rows}
use Rattle.cert_text.specs.Cert.{Certificate}
use Rattle.cert_text.specs.declared.cert_line.CellNumber.{CellNumber}
use Rattle.cert_text.specs.declared.fault.CertFault.{CertFault}
use Rattle.cert_text.specs.declared.fault.CertFault.TheVariants.{Memory, UnpublishedGiven}
use Rattle.cert_check.specs.FirstFault.{AnswersFirst, CertFirstFault}
use Rattle.cert_check.specs.LemmaProof.{IsLemmaProof}
use Rattle.cert_check.specs.Published.{FirstUnpublished, IsPublished, IsPublishedUnique, PublishedFirstFault}
use Rattle.cert_check.specs.Puzzle.{IsUnique, numbered}
use Rattle.cert_check.proofs.AmongLemmas.{among_cases}
use Rattle.cert_check.proofs.LemmaAccepted.{proof_is_none}

module _ (picture : Rows) (published : List ℕ) where
  -- the first givens are published: what is first of the others is first of all
  pub record PublishedSoFar (i : ℕ) (givens : List CellNumber) : Type 0 where
    pub goes : (fault : Option CertFault) → FirstUnpublished picture published (2 + i) (drop i givens) fault → FirstUnpublished picture published 2 givens fault

  here : (cells : List CellNumber) (i : ℕ) (d : CellNumber) → i < length cells → drop i cells ≡ get_or cells i d ∷ drop (i + 1) cells
  here cells i d l = rw (add-one, drop-cons cells i d) refl

  pub one_published : (i : ℕ) (givens : List CellNumber) (cell d : CellNumber) → PublishedSoFar i givens → i < length givens → cell ≡ get_or givens i d → IsPublished picture published cell
      → PublishedSoFar (i + 1) givens
  one_published i givens cell d so_far l e is = record {
    goes = λ fault f.
        let n : 2 + (i + 1) ≡ 2 + i + 1 = omega arith in
        so_far.goes fault (rw (here givens i d l, ← e) (inr (is, rw n at f)));
  }

  pub one_not : (i : ℕ) (givens : List CellNumber) (cell d : CellNumber) → PublishedSoFar i givens → i < length givens → cell ≡ get_or givens i d → (IsPublished picture published cell → ⊥)
      → FirstUnpublished picture published 2 givens (Some (UnpublishedGiven (2 + i)))
  one_not i givens cell d so_far l e not = so_far.goes (Some (UnpublishedGiven (2 + i))) (rw (here givens i d l, ← e) (inl (not, refl)))

  -- none is missing exactly where all are published
  none_missing : (n : ℕ) (givens : List CellNumber) → FirstUnpublished picture published n givens None → AllByRecursion (IsPublished picture published) givens
  none_missing n [] f = tt
  none_missing n (cell ∷ cells) (inl h) = let e = h.1 in cc
  none_missing n (cell ∷ cells) (inr h) = (h.0, none_missing (n + 1) cells h.1)

  all_published : (n : ℕ) (givens : List CellNumber) (fault : Option CertFault) → AllByRecursion (IsPublished picture published) givens → FirstUnpublished picture published n givens fault
      → fault ≡ None
  all_published n [] fault all f = f
  all_published n (cell ∷ cells) fault all (inl h) = absurd (h.0 all.0)
  all_published n (cell ∷ cells) fault all (inr h) = all_published (n + 1) cells fault all.1 h.1

  named_published : (givens : List CellNumber) (row col : ℕ) → AllByRecursion (IsPublished picture published) givens → Contains givens (numbered row col) → HasCell published row col
  named_published [] row col all m = absurd (let q = m.1 in omega arith)
  named_published (cell ∷ cells) row col all m = elim (among_cases (numbered row col) cell cells m) [
    | inr rest ↦ named_published cells row col all.1 rest
    | inl e ↦
        let r : cell.row - 1 ≡ row = (let a : row + 1 ≡ cell.row = ap (λ (x : CellNumber). x.row) e in omega arith) in
        let c : cell.col - 1 ≡ col = (let a : col + 1 ≡ cell.col = ap (λ (x : CellNumber). x.col) e in omega arith) in
        rw (r, c) at all.0.1
  ]

  unique_published : (givens : List CellNumber) → AllByRecursion (IsPublished picture published) givens → IsUnique picture givens → IsPublishedUnique picture published
  unique_published givens all unique other s = unique other (record {
    is_picture = s.is_picture;
    rows = s.rows;
    columns = s.columns;
    has_clues = s.has_clues;
    keeps_givens = λ row col named. s.keeps_givens row col (named_published givens row col all named);
  })

  module _ (cert : Certificate) where
    pub refused_published : (e : CertFault) → AnswersFirst (CertFirstFault picture cert) (Err e) → AnswersFirst (PublishedFirstFault picture published cert) (Err e)
    refused_published e (inl m) = inl m
    refused_published e (inr f) = inr (inl (e, (f, refl)))

    pub accepted_published : (r : Result (Unit {0}) CertFault) → CertFirstFault picture cert None → AnswersFirst (FirstUnpublished picture published 2 cert.givens) r
        → AnswersFirst (PublishedFirstFault picture published cert) r
    accepted_published (Ok x) none f = inr (none, f)
    accepted_published (Err e) none (inl m) = inl m
    accepted_published (Err e) none (inr f) = inr (inr (none, f))

    pub answers_published : (r : Result (Unit {0}) CertFault) → AnswersFirst (FirstUnpublished picture published 2 cert.givens) r → OnOk r (AllByRecursion (IsPublished picture published) cert.givens)
    answers_published (Ok x) f = none_missing 2 cert.givens f
    answers_published (Err e) f = tt

    pub answers_unique : (r : Result (Unit {0}) CertFault) → IsUnique picture cert.givens → AnswersFirst (FirstUnpublished picture published 2 cert.givens) r
        → OnOk r (IsPublishedUnique picture published)
    answers_unique (Ok x) unique f = unique_published cert.givens (none_missing 2 cert.givens f) unique
    answers_unique (Err e) unique f = tt

    pub answers_only : (r : Result (Unit {0}) CertFault) → AnswersFirst (PublishedFirstFault picture published cert) r → IsLemmaProof picture cert
        → AllByRecursion (IsPublished picture published) cert.givens → IfErr r (λ e. e ≡ Memory)
    answers_only (Ok x) f p all = tt
    answers_only (Err e) (inl m) p all = m
    answers_only (Err e) (inr (inl f)) p all = let z = proof_is_none picture cert p (Some f.0) f.1.0 in cc
    answers_only (Err e) (inr (inr f)) p all = let z = all_published 2 cert.givens (Some e) all f.1 in cc

pub ruleset publishing = (refused_published, accepted_published, answers_published, answers_unique, answers_only)

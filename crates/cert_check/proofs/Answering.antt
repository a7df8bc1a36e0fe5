-- What the checker's answer says of a certificate.
use Rattle.std.proofs.Common.{◌≡◌, refl, ◌+◌, ◌↔◌, length, Option, Some, IsOk, Result, Ok, Err, inl, inr}
use Rattle.std.specs.Prelude.{IfErr, OnOk}
use Rattle.std.specs.List.{AllByRecursion}
use Rattle.picture.specs.Rows.{width_of, Rows}
use Rattle.cert_text.specs.declared.fault.CertFault.{CertFault}
use Rattle.cert_text.specs.declared.fault.CertFault.TheVariants.{Memory}
use Rattle.cert_text.specs.Cert.{Certificate, IsOfTree, place_of}
use Rattle.picture.specs.Picture.{IsPicture}
use Rattle.line_facts.specs.Masks.{Masks}
use Rattle.line_facts.specs.FactSets.{nothing_excluded}
use Rattle.cert_check.specs.FirstFault.{Answers, AnswersFirst, CertFirstFault, FirstFault}
use Rattle.cert_check.specs.LemmaProof.{IsLemmaProof}
use Rattle.cert_check.specs.Puzzle.{HasCellNumber, IsUnique, base_of, with_givens}
use Rattle.cert_check.specs.Walk.{Walk, root}
use Rattle.cert_check.specs.Tree.{IsProof}
use Rattle.cert_check.proofs.TreeExactness.{none_is_tree, tree_is_none}
use Rattle.cert_check.proofs.LemmaAccepted.{proof_is_none}
use Rattle.cert_check.proofs.LemmaExactness.{none_is_proof}
use Rattle.cert_check.proofs.LemmaSoundness.{lemmas_are_unique}

pub answers_tree : (picture : Rows) (cert : Certificate) (r : Result (Unit {0}) CertFault) → AnswersFirst (CertFirstFault picture cert) r → OnOk r (AllByRecursion IsOfTree cert.lines
    → IsProof picture cert)
answers_tree picture cert (Ok x) a = λ all. none_is_tree picture cert all a
answers_tree picture cert (Err e) a = tt

pub answers_only_tree : (picture : Rows) (cert : Certificate) (r : Result (Unit {0}) CertFault) → AnswersFirst (CertFirstFault picture cert) r → IsProof picture cert → IfErr r (λ e. e ≡ Memory)
answers_only_tree picture cert (Ok x) a p = tt
answers_only_tree picture cert (Err e) (inl m) p = m
answers_only_tree picture cert (Err e) (inr f) p = let z = tree_is_none picture cert p (Some e) f in cc

pub answers_proof : (picture : Rows) (cert : Certificate) (r : Result (Unit {0}) CertFault) → AnswersFirst (CertFirstFault picture cert) r → OnOk r (IsLemmaProof picture cert)
answers_proof picture cert (Ok x) a = none_is_proof picture cert a
answers_proof picture cert (Err e) a = tt

pub answers_only : (picture : Rows) (cert : Certificate) (r : Result (Unit {0}) CertFault) → AnswersFirst (CertFirstFault picture cert) r → IsLemmaProof picture cert → IfErr r (λ e. e ≡ Memory)
answers_only picture cert (Ok x) a p = tt
answers_only picture cert (Err e) (inl m) p = m
answers_only picture cert (Err e) (inr f) p = let z = proof_is_none picture cert p (Some e) f in cc

pub answers_unique : (picture : Rows) (cert : Certificate) (r : Result (Unit {0}) CertFault) → IsPicture picture → AnswersFirst (CertFirstFault picture cert) r → OnOk r (IsUnique picture cert.givens)
answers_unique picture cert (Ok x) is a = lemmas_are_unique picture cert is (none_is_proof picture cert a)
answers_unique picture cert (Err e) is a = tt

-- what a checker answers that has its memory
pub answers_first : (Is : Option CertFault → Type 0) (r : Result (Unit {0}) CertFault) → Answers Is r → AnswersFirst Is r
answers_first Is (Ok x) a = a
answers_first Is (Err e) a = inr a

pub answers_exactly : (picture : Rows) (cert : Certificate) (r : Result (Unit {0}) CertFault) → Answers (CertFirstFault picture cert) r → IsOk r ↔ IsLemmaProof picture cert
answers_exactly picture cert (Ok x) a = ((λ y. none_is_proof picture cert a), (λ p. refl))
answers_exactly picture cert (Err e) a = ((λ y. cc), (λ p. let z = proof_is_none picture cert p (Some e) a in cc))

pub answers_only_one : (picture : Rows) (cert : Certificate) (r : Result (Unit {0}) CertFault) → IsPicture picture → Answers (CertFirstFault picture cert) r → OnOk r (IsUnique picture cert.givens)
answers_only_one picture cert r is a = answers_unique picture cert r is (answers_first (CertFirstFault picture cert) r a)

-- the facts at the root, as they are made
pub inside_first : (picture : Rows) (cert : Certificate) (r : Result (Unit {0}) CertFault) (walk : Walk) (blank facts : Masks) → AllByRecursion (HasCellNumber picture) cert.givens
    → blank ≡ nothing_excluded (length picture) (width_of picture) → facts ≡ with_givens picture cert.givens blank → walk ≡ root facts
    → Answers (FirstFault picture (Some walk) (place_of cert.runs (2 + length cert.givens)) 0 cert.lines) r → Answers (CertFirstFault picture cert) r
inside_first picture cert r walk blank facts has b f root_is a = by r (rw (root_is, f, b) at a)
  where
    by : (r : Result (Unit {0}) CertFault) → Answers (FirstFault picture (Some (root (base_of picture cert.givens))) (place_of cert.runs (2 + length cert.givens)) 0 cert.lines) r
        → Answers (CertFirstFault picture cert) r
    by (Ok x) f = inr (has, f)
    by (Err e) f = inr (has, f)

pub ruleset answering = (answers_tree, answers_only_tree, answers_proof, answers_only, answers_unique)

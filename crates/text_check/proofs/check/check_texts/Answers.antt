use Rattle.std.proofs.lemmas.Result.{err_from_is_err_and}
use Rattle.text_check.proofs.CheckLemmas.{accepted_is_only, accepted_is_shown, refused_is_shown, refused_only, refused_only_lemmas}
use Rattle.text_check.proofs.check.check_texts.Goals as goal

pub returns-in_err-check-clause-shown : goal.returns-in_err-check-clause-shown
returns-in_err-check-clause-shown c =
    let p = err_from_is_err_and c.from_residual-in_err-check.result c.from_residual-in_err-check.ensures.1 in
    let read = c.in_ok-published.ensures in
    rw p.1 (refused_is_shown _ _ _ _ _ read.0 _ c.in_ok-document.ensures.read read.1.0 c.in_ok-certificate.ensures.value _ p.0 (c.in_err-check.ensures.first read.0 read.1.1) p.2)

pub returns-in_err-check-clause-only : goal.returns-in_err-check-clause-only
returns-in_err-check-clause-only c = λ proof.
    let p = err_from_is_err_and c.from_residual-in_err-check.result c.from_residual-in_err-check.ensures.1 in
    let read = c.in_ok-published.ensures in
    rw p.1 (refused_only _ _ _ _ _ read.0 _ c.in_ok-document.ensures.read read.1.0 c.in_ok-certificate.ensures.value _ p.0 (c.in_err-check.ensures.only read.0 read.1.1) p.2 proof)

pub returns-in_err-check-clause-only_lemmas : goal.returns-in_err-check-clause-only_lemmas
returns-in_err-check-clause-only_lemmas c = λ proof.
    let p = err_from_is_err_and c.from_residual-in_err-check.result c.from_residual-in_err-check.ensures.1 in
    let read = c.in_ok-published.ensures in
    rw p.1 (refused_only_lemmas _ _ _ _ _ read.0 _ c.in_ok-document.ensures.read read.1.0 c.in_ok-certificate.ensures.value _ p.0 (c.in_err-check.ensures.only_lemmas read.0 read.1.1) p.2 proof)

pub returns-clause-shown : goal.returns-clause-shown
returns-clause-shown c =
    let read = c.in_ok-published.ensures in
    accepted_is_shown _ _ _ _ _ read.0 _ c.in_ok-document.ensures.read read.1.0 c.in_ok-certificate.ensures.value _ (c.in_ok-check.ensures.first read.0 read.1.1) c.in_ok-say_accepted.ensures.line

pub returns-clause-unique : goal.returns-clause-unique
returns-clause-unique c =
    let read = c.in_ok-published.ensures in
    accepted_is_only _ _ _ _ _ read.0 _ c.in_ok-document.ensures.read read.1.0 c.in_ok-certificate.ensures.value (c.in_ok-check.ensures.unique read.0 read.1.1)

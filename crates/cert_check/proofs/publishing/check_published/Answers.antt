use Rattle.std.proofs.lemmas.Result.{err_from_is_err_and}
use Rattle.cert_check.proofs.PublishedLemmas.{accepted_published, answers_only, answers_unique, refused_published}
use Rattle.cert_check.proofs.publishing.check_published.Goals as goal

pub returns-in_err-check_cert-clause-first : goal.returns-in_err-check_cert-clause-first
returns-in_err-check_cert-clause-first g c =
    let p = err_from_is_err_and c.from_residual.result c.from_residual.ensures.1 in
    rw (p.1, p.2) (refused_published c.args.picture.now c.args.published.now c.args.cert.now c.in_err-check_cert.field-0.0 c.in_err-check_cert.ensures.first)

pub returns-clause-only : goal.returns-clause-only
returns-clause-only g c =
    let found = rw c.givens.ensures at c.find_unpublished.ensures in
    answers_only c.args.picture.now c.args.published.now c.args.cert.now c.find_unpublished.result
    (accepted_published c.args.picture.now c.args.published.now c.args.cert.now c.find_unpublished.result c.in_ok-check_cert.ensures.first found)

pub returns-clause-unique : goal.returns-clause-unique
returns-clause-unique g c =
    let found = rw c.givens.ensures at c.find_unpublished.ensures in
    answers_unique c.args.picture.now c.args.published.now c.args.cert.now c.find_unpublished.result c.in_ok-check_cert.ensures.unique found

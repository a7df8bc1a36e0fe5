use Rattle.std.proofs.Common.{◌∙◌, [], Err, append-nil, ap, inl, refl, sym}
use Rattle.std.proofs.lemmas.Result.{err_from_is_err_and}
use Rattle.program.proofs.AssessLemmas.{stops, with_both, without_cert}
use Rattle.program.proofs.assessing.assess_files.Goals as goal

pub returns-in_err-givens : goal.returns-in_err-givens
returns-in_err-givens g c = λ had.
    let p = err_from_is_err_and c.from_residual.result c.from_residual.ensures.1 in
    let given = c.in_err-givens in
    inl (stops _ _ _ had _ given.field-0.0 c.from_residual.result (p.1 ∙ ap Err p.2) c.args.beside.0 [] _ _ _ (sym (append-nil _)) given.ensures.opens given.ensures.reads given.ensures.cause)

pub returns-in_err-cert : goal.returns-in_err-cert
returns-in_err-cert g c = λ had.
    let p = err_from_is_err_and c.from_residual-in_err-cert.result c.from_residual-in_err-cert.ensures.1 in
    let given = c.in_ok-givens in
    let cert = c.in_err-cert in
    without_cert _ _ _ given.ensures.keeps cert.ensures.keeps _ _ _ _ _ _ had _ c.args.paths.now c.args.beside.0 c.args.beside.1 c.args.options.now c.from_residual-in_err-cert.result
    given.ensures.opens cert.ensures.opens given.ensures.cause cert.field-0.0 (p.1 ∙ ap Err p.2) cert.ensures.reads cert.ensures.cause

pub returns : goal.returns
returns g c = λ had.
    let given = c.in_ok-givens in
    let cert = c.in_ok-cert in
    with_both _ _ _ given.ensures.keeps cert.ensures.keeps _ _ _ _ _ _ had _ c.args.paths.now c.args.beside.0 c.args.beside.1 c.args.options.now c.assess_each.result given.ensures.opens
    cert.ensures.opens given.ensures.cause cert.ensures.cause given.givens cert.cert given.ensures.reads cert.ensures.reads _ refl _ (c.assess_each.ensures had)

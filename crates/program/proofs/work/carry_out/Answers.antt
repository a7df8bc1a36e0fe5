use Rattle.std.proofs.Common.{Err, ap, ◌∙◌}
use Rattle.std.proofs.lemmas.Result.{err_from_is_err_and}
use Rattle.program.proofs.AssessLemmas.{assesses}
use Rattle.program.proofs.CheckLemmas.{checked, checked_with, half_read, none_named, without_givens}
use Rattle.program.proofs.work.carry_out.Goals as goal

pub returns-in_err-cert-in-Check : goal.returns-in_err-cert-in-Check
returns-in_err-cert-in-Check g c =
    let p = err_from_is_err_and c.from_residual-in_err-cert-in-Check.result c.from_residual-in_err-cert-in-Check.ensures.1 in
    let task = c.in-Check in
    let file = c.in_ok-file-in-Check in
    let cert = c.in_err-cert-in-Check in
    half_read _ _ _ _ _ _ _ _ _ _ c.args.task.now task.file task.cert task.givens task.background file.file.items cert.field-0.0 c.from_residual-in_err-cert-in-Check.result task.is
    (record { content = file.ensures.reads.0; first = file.ensures.opens; faultless = file.ensures.cause; keeps = file.ensures.keeps; next = cert.ensures.opens }) cert.ensures.reads
    cert.ensures.cause (p.1 ∙ ap Err p.2)

pub returns-in_default : goal.returns-in_default
returns-in_default g c =
    let task = c.in-Check in
    let file = c.in_ok-file-in-Check in
    let cert = c.in_ok-cert-in-Check in
    let e = c.run_check.ensures in
    checked _ _ _ _ _ _ _ _ _ _ _ c.args.task.now task.file task.cert task.background file.file.items cert.cert.items c.deref-in_default.result.now c.deref-in_default-2.result.now
    c.run_check.result (none_named c.args.task.now task.file task.cert task.givens task.background task.is c.in_default.not-Some)
    (record { content = file.ensures.reads.0; first = file.ensures.opens; faultless = file.ensures.cause; keeps = file.ensures.keeps; next = cert.ensures.opens }) cert.ensures.reads.0
    cert.ensures.cause c.deref-in_default.ensures.value
    c.deref-in_default-2.ensures.value e.writes e.only e.only_lemmas e.unique

pub returns-in_err-givens-in-Check : goal.returns-in_err-givens-in-Check
returns-in_err-givens-in-Check g c =
    let p = err_from_is_err_and c.from_residual-in_err-givens-in-Check.result c.from_residual-in_err-givens-in-Check.ensures.1 in
    let task = c.in-Check in
    let file = c.in_ok-file-in-Check in
    let cert = c.in_ok-cert-in-Check in
    let givens = c.in_err-givens-in-Check in
    without_givens _ _ _ _ _ _ _ _ _ _ _ _ _ task.file task.cert c.in-Some.givens file.file.items cert.cert.items (record {
      both = record { content = file.ensures.reads.0; first = file.ensures.opens; faultless = file.ensures.cause; keeps = file.ensures.keeps; next = cert.ensures.opens };
      cert_content = cert.ensures.reads.0;
      faultless = cert.ensures.cause;
      keeps = cert.ensures.keeps;
      next = givens.ensures.opens;
    }) c.args.task.now task.givens task.background task.is c.in-Some.is givens.field-0.0 c.from_residual-in_err-givens-in-Check.result givens.ensures.reads givens.ensures.cause (p.1 ∙ ap Err p.2)

pub returns-in_ok-givens-in-Check : goal.returns-in_ok-givens-in-Check
returns-in_ok-givens-in-Check g c =
    let task = c.in-Check in
    let file = c.in_ok-file-in-Check in
    let cert = c.in_ok-cert-in-Check in
    let givens = c.in_ok-givens-in-Check in
    let e = c.run_check-in-Check.ensures in
    checked_with _ _ _ _ _ _ _ _ _ _ _ _ _ task.file task.cert c.in-Some.givens file.file.items cert.cert.items (record {
      both = record { content = file.ensures.reads.0; first = file.ensures.opens; faultless = file.ensures.cause; keeps = file.ensures.keeps; next = cert.ensures.opens };
      cert_content = cert.ensures.reads.0;
      faultless = cert.ensures.cause;
      keeps = cert.ensures.keeps;
      next = givens.ensures.opens;
    }) c.args.task.now task.givens task.background task.is c.in-Some.is _ givens.givens.items c.deref-in-Check.result.now c.deref-in-Check-2.result.now c.as_slice.result.now
    c.run_check-in-Check.result givens.ensures.reads.0 givens.ensures.cause c.deref-in-Check.ensures.value c.deref-in-Check-2.ensures.value c.as_slice.ensures.value e.writes e.only e.only_lemmas e.unique

pub returns-in-Assess : goal.returns-in-Assess
returns-in-Assess g c =
    let task = c.in-Assess in
    assesses _ _ _ c.args.task.now task.paths c.deref-in-Assess.result.now task.options task.givens task.cert c.assess_files.result task.is c.deref-in-Assess.ensures.value (c.assess_files.ensures _)

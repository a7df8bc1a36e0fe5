use Rattle.std.proofs.Common.{Err, ap, ◌∙◌}
use Rattle.std.proofs.lemmas.Result.{err_from_is_err_and}
use Rattle.program.proofs.CheckLemmas.{without_some}
use Rattle.program.proofs.ProveLemmas.{proved, proved_with, without}
use Rattle.program.proofs.work.show_proof.Goals as goal

pub returns-in_default : goal.returns-in_default
returns-in_default g c = λ input.
    let file = c.in_ok-file in
    proved (g.F.Files.held c.args.files.now) _ _ _ _ input _ _ c.args.file c.args.givens c.args.options file.file.items c.deref.result.now c.run_prove.result
    (without_some c.args.givens c.in_default.not-Some) file.ensures.reads.0 file.ensures.opens file.ensures.cause c.deref.ensures.value c.run_prove.ensures

pub returns-in_err-givens : goal.returns-in_err-givens
returns-in_err-givens g c = λ input.
    let p = err_from_is_err_and c.from_residual-in_err-givens.result c.from_residual-in_err-givens.ensures.1 in
    let file = c.in_ok-file in
    let givens = c.in_err-givens in
    without _ _ _ _ _ _ _ _ input _ c.args.file c.args.givens c.in-Some.givens c.args.options file.file.items c.in-Some.is
    (record { content = file.ensures.reads.0; first = file.ensures.opens; faultless = file.ensures.cause; keeps = file.ensures.keeps; next = givens.ensures.opens })
    givens.field-0.0 c.from_residual-in_err-givens.result givens.ensures.reads givens.ensures.cause (p.1 ∙ ap Err p.2)

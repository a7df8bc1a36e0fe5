use Rattle.std.proofs.Common.{rules, Ok, Err, ap, ◌∙◌}
use Rattle.std.proofs.lemmas.Result.{err_from_is_err_and}
use Rattle.program.proofs.WorkLemmas.{broke_off, ran}
use Rattle.program.proofs.work.run_work.Goals as goal

pub returns-in_err-run_session : goal.returns-in_err-run_session
returns-in_err-run_session g c =
    let p = err_from_is_err_and c.from_residual-in_err-run_session.result c.from_residual-in_err-run_session.ensures.1 in
    broke_off _ _ _ _ c.args.file.now c.args.options c.in_err-run_session.field-0.0 c.from_residual-in_err-run_session.result (p.1 ∙ ap Err p.2)
    (ran _ _ _ _ c.args.file.now c.args.options c.in_ok-bench.bench c.run_session.new.bench c.run_session.result (Err c.in_err-run_session.field-0.0)
    c.in_ok-bench.ensures (search rules) c.run_session.ensures.says)

pub returns : goal.returns
returns g c =
    ran _ _ _ _ c.args.file.now c.args.options c.in_ok-bench.bench c.run_session.new.bench c.run_session.result (Ok tt)
    c.in_ok-bench.ensures (search rules) c.run_session.ensures.says

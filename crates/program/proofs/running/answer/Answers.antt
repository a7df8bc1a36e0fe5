use Rattle.std.proofs.Common.{Err, ap, inr, ◌∙◌}
use Rattle.std.proofs.lemmas.Result.{err_from_is_err_and}
use Rattle.program.proofs.RunLemmas.{refused, task_so}
use Rattle.program.proofs.running.answer.Goals as goal

pub returns-in_err-task : goal.returns-in_err-task
returns-in_err-task g c =
    let p = err_from_is_err_and c.from_residual.result c.from_residual.ensures.1 in
    let e = c.in_err-task.ensures in
    refused c.args.words.now _ _ c.in_err-task.field-0.0 c.from_residual.result (p.1 ∙ ap Err p.2) (task_so c.args.words.now _ e.none e.asked)

pub returns : goal.returns
returns g c =
    let e = c.in_ok-task.ensures in
    inr (c.in_ok-task.task, (task_so c.args.words.now _ e.none e.asked, c.carry_out.ensures))

use Rattle.program.proofs.RunLemmas.{ends_err, ends_ok}
use Rattle.program.proofs.running.run.Goals as goal

pub returns-in-Ok : goal.returns-in-Ok
returns-in-Ok g c =
    let e = c.end_with.ensures in
    ends_ok c.args.arguments c.in-Ok.arguments c.deref.result.now _ _ _ _ _ c.answer_all-outcome.result c.end_with.result c.in-Ok.is c.deref.ensures.value c.answer_all-outcome.ensures e.code e.line

pub returns-in-Err : goal.returns-in-Err
returns-in-Err g c =
    let e = c.end_with-in-Err.ensures in
    ends_err c.args.arguments c.in-Err.fault _ _ _ _ c.end_with-in-Err.result c.in-Err.is e.code e.line

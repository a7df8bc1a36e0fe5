use Rattle.std.proofs.Common.{◌≡◌, min, length, take, drop, ◌∙◌, arith}
use Rattle.std.proofs.lemmas.Result.{err_from_is_err_and}
use Rattle.cert_text.proofs.WriteLemmas.{run_cut, run_sent, take_capped}
use Rattle.cert_text.proofs.writing.send_runs.Goals as goal

pub returns-in_err-send_run-clause-err : goal.returns-in_err-send_run-clause-err
returns-in_err-send_run-clause-err g c =
    let p = err_from_is_err_and c.from_residual.result c.from_residual.ensures.1 in
    let same = take_capped c.from.result c.loop-run.rest.now in
    let few : c.min.result ≡ min c.from.result (length c.loop-run.rest.now) = omega (arith, c.min.ensures) in
    let here : c.split_at.result.0.now ≡ take c.from.result c.loop-run.rest.now =
    (let e : take c.min.result c.loop-run.rest.now ≡ take c.from.result c.loop-run.rest.now = rw few same.0 in ◌∙◌ {b = take c.min.result c.loop-run.rest.now} c.split_at.ensures.front e) in
    rw p.1 (run_cut (g.W.Write.contents c.args.writer.now) (g.W.Write.contents c.loop-run.writer) (g.W.Write.contents c.send_run.new.writer) c.args.runs.now c.args.steps.now c.loop-run.rest.now
    c.loop-run.run-index c.from.result (omega arith) c.from.ensures c.loop-run.invariant (rw here at c.in_err-send_run.ensures.err))

pub loop-run-preserved : goal.loop-run-preserved
loop-run-preserved g c =
    let same = take_capped c.from.result c.loop-run.rest.now in
    let few : c.min.result ≡ min c.from.result (length c.loop-run.rest.now) = omega (arith, c.min.ensures) in
    let here : c.split_at.result.0.now ≡ take c.from.result c.loop-run.rest.now =
    (let e : take c.min.result c.loop-run.rest.now ≡ take c.from.result c.loop-run.rest.now = rw few same.0 in ◌∙◌ {b = take c.min.result c.loop-run.rest.now} c.split_at.ensures.front e) in
    let next : c.split_at.result.1.now ≡ drop c.from.result c.loop-run.rest.now =
    (let e : drop c.min.result c.loop-run.rest.now ≡ drop c.from.result c.loop-run.rest.now = rw few same.1 in ◌∙◌ {b = drop c.min.result c.loop-run.rest.now} c.split_at.ensures.back e) in
    rw next (run_sent (g.W.Write.contents c.args.writer.now) (g.W.Write.contents c.loop-run.writer) (g.W.Write.contents c.send_run.new.writer) c.args.runs.now c.args.steps.now c.loop-run.rest.now
    c.loop-run.run-index c.from.result (omega arith) c.from.ensures c.loop-run.invariant (rw here at c.in_ok-send_run.ensures.ok))

use Rattle.std.proofs.Common.{List, subst, ℕ}
use Rattle.std.specs.Io.KnownBytes.{Appends}
use Rattle.picture.specs.Writers.{AppendsFront}
use Rattle.std.proofs.lemmas.Result.{err_from_is_err_and}
use Rattle.session.proofs.RunLemmas.{cuts_no_more, cuts_one, run_begins, run_breaks, run_ends, run_goes_on, run_is_cut}
use Rattle.session.proofs.session.answer_lines.Goals as goal

pub loop-request-init : goal.loop-request-init
loop-request-init g c = run_begins _ _ _ _ c.new-lines.ensures.waiting c.new-lines.ensures.ended

pub returns-in_err-request : goal.returns-in_err-request
returns-in_err-request g c =
    let p = err_from_is_err_and c.from_residual.result c.from_residual.ensures.1 in
    rw p.1 (rw p.2 (run_is_cut _ _ _ _ _ _ _ c.loop-request.lines c.loop-request.invariant c.in_err-request.ensures.value))

pub returns-in_err-send : goal.returns-in_err-send
returns-in_err-send g c =
    let p = err_from_is_err_and c.from_residual-in_err-send.result c.from_residual-in_err-send.ensures.1 in
    let cut = cuts_one _ _ c.loop-request.lines c.next.new.self c.in_ok-request.field-0 c.in-Some.request c.next.result c.in_ok-request.was c.in-Some.is c.next.ensures.value in
    let wrote = g.W.Write.contents c.loop-request.writer in
    let P : List ℕ → Type 0 = λ bytes. AppendsFront wrote (g.W.Write.contents c.send.new.writer) bytes in
    rw p.1 (rw p.2 (run_breaks _ _ _ _ wrote _ _ _ _ c.loop-request.lines c.next.new.self c.in-Some.request _ c.loop-request.invariant cut c.answer_to-answer.ensures
    (subst P c.bytes.ensures c.in_err-send.ensures.err)))

pub loop-request-preserved-in_ok-send : goal.loop-request-preserved-in_ok-send
loop-request-preserved-in_ok-send g c =
    let cut = cuts_one _ _ c.loop-request.lines c.next.new.self c.in_ok-request.field-0 c.in-Some.request c.next.result c.in_ok-request.was c.in-Some.is c.next.ensures.value in
    let wrote = g.W.Write.contents c.loop-request.writer in
    let P : List ℕ → Type 0 = λ bytes. Appends wrote (g.W.Write.contents c.send.new.writer) bytes in
    run_goes_on _ _ _ _ wrote _ _ _ _ c.loop-request.lines c.next.new.self c.in-Some.request _ c.loop-request.invariant cut c.answer_to-answer.ensures (subst P c.bytes.ensures c.in_ok-send.ensures.ok)

pub loop-request-preserved : goal.loop-request-preserved
loop-request-preserved g c =
    let cut = cuts_one _ _ c.loop-request.lines c.next.new.self c.in_ok-request.field-0 c.in-Some.request c.next.result c.in_ok-request.was c.in-Some.is c.next.ensures.value in
    let wrote = g.W.Write.contents c.loop-request.writer in
    let P : List ℕ → Type 0 = λ bytes. Appends wrote (g.W.Write.contents c.send.new.writer) bytes in
    run_goes_on _ _ _ _ wrote _ _ _ _ c.loop-request.lines c.next.new.self c.in-Some.request _ c.loop-request.invariant cut c.answer_to-answer.ensures (subst P c.bytes.ensures c.in_ok-send.ensures.ok)

pub returns : goal.returns
returns g c = run_ends _ _ _ _ _ _ _ c.loop-request.lines c.next.new.self c.loop-request.invariant
    (cuts_no_more _ _ c.loop-request.lines c.next.new.self c.in_ok-request.field-0 c.next.result c.in_ok-request.was c.in_default.is c.next.ensures.value)

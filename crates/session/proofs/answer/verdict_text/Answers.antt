use Rattle.std.proofs.Common.{ap, arith}
use Rattle.std.proofs.lemmas.Result.{err_from_is_err_and}
use Rattle.edits.specs.Design.{Design}
use Rattle.report_text.specs.Room.{picture_room}
use Rattle.session.proofs.AnswerLemmas.{from_nothing, judged_now, unjudged_now}
use Rattle.session.proofs.RoomLemmas.{verdict_fits}
use Rattle.session.proofs.answer.verdict_text.Goals as goal

pub returns-in_err-verdict : goal.returns-in_err-verdict
returns-in_err-verdict g c =
    let p = err_from_is_err_and c.from_residual-in_err-verdict.result c.from_residual-in_err-verdict.ensures.1 in
    rw p.1 (unjudged_now c.args.bench.now c.verdict.follows.lender-at-none c.verdict.result _ c.in_err-verdict.was c.verdict.follows.holds-at-none)

-- there was room for any verdict
pub returns-in_err-push_verdict : goal.returns-in_err-push_verdict
returns-in_err-push_verdict g c =
    let s = c.args.bench.now in
    let v = c.in_ok-verdict in
    let fits = verdict_fits s.history.document s.allowance v.verdict v.ensures.headline in
    let same = ap (λ (d : Design). picture_room d.rows) c.document.ensures.value in
    absurd (omega (arith, c.in_err-push_verdict.ensures.room.short, c.in_ok-text.ensures.room, fits, same))

pub returns : goal.returns
returns g c =
    let v = c.in_ok-verdict in (
      c.verdict.follows.holds-at-none.1.0,
      (
        v.verdict,
        (
          judged_now c.args.bench.now c.verdict.follows.lender-at-none c.verdict.result v.verdict v.was c.verdict.follows.holds-at-none v.ensures.headline,
          from_nothing _ _ _ c.in_ok-push_verdict.ensures.items c.in_ok-text.ensures.empty,
        ),
      ),
    )

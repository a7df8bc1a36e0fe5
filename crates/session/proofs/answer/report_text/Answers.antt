use Rattle.std.proofs.Common.{◌≡◌, ◌∙◌, arith}
use Rattle.std.proofs.lemmas.Result.{err_from_is_err_and}
use Rattle.live_audit.specs.declared.verdict.Verdict.{Verdict}
use Rattle.report_text.proofs.ReportLemmas.{front_text}
use Rattle.session.specs.Session.{JudgesAs}
use Rattle.session.specs.Texts.{verdict_word}
use Rattle.session.proofs.AnswerLemmas.{from_nothing, judged_now, reported, unjudged_now}
use Rattle.session.proofs.RoomLemmas.{word_fits}
use Rattle.session.proofs.answer.report_text.Goals as goal

pub returns-in_err-verdict : goal.returns-in_err-verdict
returns-in_err-verdict g c =
    let p = err_from_is_err_and c.from_residual-in_err-verdict.result c.from_residual-in_err-verdict.ensures.1 in
    rw p.1 (unjudged_now c.args.bench.now c.verdict.follows.lender-at-none c.verdict.result _ c.in_err-verdict.was c.verdict.follows.holds-at-none)

-- there was room for the ending
pub returns-in_err-push_ending : goal.returns-in_err-push_ending
returns-in_err-push_ending g c =
    absurd (omega (arith, c.in_err-push_ending.ensures.room.short, c.in_ok-reserve.ensures, word_fits c.verdict_word-word.result.now c.in_ok-verdict.verdict c.verdict_word-word.ensures))

pub returns : goal.returns
returns g c =
    let s = c.args.bench.now in
    let last = c.verdict.follows.lender-at-none in
    let v = c.in_ok-verdict in
    let told : JudgesAs s last v.verdict = judged_now s last c.verdict.result v.verdict v.was c.verdict.follows.holds-at-none v.ensures.headline in
    let word = c.verdict_word-word.result.now in
    let asked : (verdict : Verdict) × (JudgesAs s last verdict × (word ≡ verdict_word verdict)) = (v.verdict, (told, c.verdict_word-word.ensures)) in
    let text = from_nothing _ _ _ (c.reserve.ensures.items ∙ c.in_ok-push_front.ensures) c.new-text.ensures.items in
    let front : c.reserve.new.self.items ≡ front_text s.history.document s.clues s.book.facts = cc (text, c.document.ensures.value, c.clues.ensures.value, c.map.ensures.value) in
    let all = reported s last word c.reserve.new.self.items _ c.past_len.result c.future_len.result asked front c.in_ok-push_ending.ensures.items c.past_len.ensures.value c.future_len.ensures.value in
    (c.verdict.follows.holds-at-none.1.0, (v.verdict, (told, all)))

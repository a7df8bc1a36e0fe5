use Rattle.std.proofs.Common.{inl}
use Rattle.live_audit.specs.Stroke.{Edits, Redoes, Undoes}
use Rattle.session.specs.Session.{Replies}
use Rattle.session.proofs.AnswerLemmas.{allowed, replies_allow, replies_assess, replies_certify, replies_clues, replies_map, replies_non, replies_path}
use Rattle.session.proofs.AnswerLemmas.{replies_ppm, replies_report, replies_verdict, says_stroke}
use Rattle.session.proofs.answer.answer_command.Goals as goal

pub allow-requires : goal.allow-requires
allow-requires g c = allowed c.in-Allow.allowance (rw c.in-Allow.is at c.requires)

pub returns-in-Edit : goal.returns-in-Edit
unfolding Replies
returns-in-Edit g c =
    let e = c.apply.ensures in
    rw (c.in-Edit.is, c.stroke_answer.ensures) (inl (says_stroke (Edits c.in-Edit.edit) c.args.bench.now c.apply.new.self c.apply.result e.accepted e.refused e.audited), e.calls)

pub returns-in-Undo : goal.returns-in-Undo
unfolding Replies
returns-in-Undo g c =
    let e = c.undo.ensures in
    rw (c.in-Undo.is, c.stroke_answer-in-Undo.ensures) (inl (says_stroke Undoes c.args.bench.now c.undo.new.self c.undo.result e.accepted e.refused e.audited), e.calls)

pub returns-in-Redo : goal.returns-in-Redo
unfolding Replies
returns-in-Redo g c =
    let e = c.redo.ensures in
    rw (c.in-Redo.is, c.stroke_answer-in-Redo.ensures) (inl (says_stroke Redoes c.args.bench.now c.redo.new.self c.redo.result e.accepted e.refused e.audited), e.calls)

pub returns-in-Clues : goal.returns-in-Clues
returns-in-Clues g c =
    let e = c.clues.ensures in
    rw (c.in-Clues.is, c.text_answer.ensures) (replies_clues c.args.bench.now c.clues.result.now c.clues_text.result e.value e.audited c.clues_text.ensures)

pub returns-in-Map : goal.returns-in-Map
returns-in-Map g c =
    let e = c.map.ensures in
    rw (c.in-Map.is, c.text_answer-in-Map.ensures) (replies_map c.args.bench.now c.map.result.now c.map_text.result e.value e.audited c.map_text.ensures)

pub returns-in-Verdict : goal.returns-in-Verdict
returns-in-Verdict g c =
    rw (c.in-Verdict.is, c.text_answer-in-Verdict.ensures) (replies_verdict c.args.bench.now c.verdict_text.new.bench c.verdict_text.result c.verdict_text.ensures)

pub returns-in-WritePpm : goal.returns-in-WritePpm
returns-in-WritePpm g c =
    rw (c.in-WritePpm.is, c.text_answer-in-WritePpm.ensures) (replies_ppm c.args.bench.now c.document.result.now c.ppm_text.result c.document.ensures.value c.ppm_text.ensures)

pub returns-in-WriteNon : goal.returns-in-WriteNon
returns-in-WriteNon g c =
    rw c.in-WriteNon.is (replies_non c.args.bench.now c.document-in-WriteNon.result.now c.non_answer.result c.document-in-WriteNon.ensures.value c.non_answer.ensures)

pub returns-in-Report : goal.returns-in-Report
returns-in-Report g c =
    rw (c.in-Report.is, c.text_answer-in-Report.ensures) (replies_report c.args.bench.now c.report_text.new.bench c.report_text.result c.report_text.ensures)

pub returns-in-Allow : goal.returns-in-Allow
returns-in-Allow g c = rw c.in-Allow.is (replies_allow c.args.bench.now c.allow.new.self c.in-Allow.allowance c.allow.ensures.value)

pub returns-in-Certify : goal.returns-in-Certify
returns-in-Certify g c =
    let e = c.certificate_text.ensures in
    rw (c.in-Certify.is, c.text_answer-in-Certify.ensures)
    (replies_certify c.args.bench.now c.certificate_text.new.bench c.certificate_text.result e.learns e.as_before e.audited e.calls e.text)

pub returns-in-Assess : goal.returns-in-Assess
returns-in-Assess g c =
    let e = c.assessment_text.ensures in
    rw (c.in-Assess.is, c.text_answer-in-Assess.ensures)
    (replies_assess c.args.bench.now c.assessment_text.new.bench c.in-Assess.is_off c.assessment_text.result e.as_before e.calls e.text)

pub returns-in-Path : goal.returns-in-Path
returns-in-Path g c =
    let e = c.path_text.ensures in
    rw (c.in-Path.is, c.text_answer-in-Path.ensures) (replies_path c.args.bench.now c.path_text.new.bench c.path_text.result e.as_before e.calls e.text)

use Rattle.std.proofs.Common.{true, false}
use Rattle.session.proofs.AnswerLemmas.{replies_outside, replies_why, replies_why_short, there, within}
use Rattle.session.proofs.answer.answer_why.Goals as goal

pub why-requires : goal.why-requires
why-requires g c =
    let s = c.args.bench.now in
    let here = there s c.document.result.now c.args.row c.args.col c.has_cell.result true c.document.ensures.value c.has_cell.ensures c.if-not-has_cell.false in
    let cell = within s.history.document.rows c.args.row c.args.col here in
    record { in_rows = cell.0; in_columns = cell.1; in_colours = c.requires }

pub returns-then-not-has_cell : goal.returns-then-not-has_cell
returns-then-not-has_cell g c =
    let s = c.args.bench.now in
    let here = there s c.document.result.now c.args.row c.args.col c.has_cell.result false c.document.ensures.value c.has_cell.ensures c.if-not-has_cell.true in
    replies_outside s c.args.row c.args.col c.args.colour here

pub returns-in-Ok : goal.returns-in-Ok
returns-in-Ok g c =
    let s = c.args.bench.now in
    let here = there s c.document.result.now c.args.row c.args.col c.has_cell.result true c.document.ensures.value c.has_cell.ensures c.if-not-has_cell.false in
    rw c.text_answer.ensures (replies_why s c.args.row c.args.col c.args.colour c.why_text.result here c.document.ensures.audited c.in-Ok.why c.in-Ok.ensures.explains c.why_text.ensures)

pub returns-in-Err : goal.returns-in-Err
returns-in-Err g c =
    let s = c.args.bench.now in
    let here = there s c.document.result.now c.args.row c.args.col c.has_cell.result true c.document.ensures.value c.has_cell.ensures c.if-not-has_cell.false in
    replies_why_short s c.args.row c.args.col c.args.colour here

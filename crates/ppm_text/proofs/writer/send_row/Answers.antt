use Rattle.std.proofs.Common.{◌<◌, length, ap, ◌∙◌, arith}
use Rattle.std.proofs.lemmas.Result.{err_from_is_err_and}
use Rattle.picture.specs.Palette.{triple_at}
use Rattle.picture.specs.Rows.{row_at}
use Rattle.picture.proofs.SendingLaws.{piece_cut, piece_sent}
use Rattle.ppm_text.specs.Text.{triple_text}
use Rattle.ppm_text.proofs.writer.send_row.Goals as goal

pub returns-in_err-send_triple-clause-err : goal.returns-in_err-send_triple-clause-err
returns-in_err-send_triple-clause-err g c =
    let p = err_from_is_err_and c.from_residual.result c.from_residual.ensures.1 in
    let row = row_at c.args.document.now.picture c.args.row in
    let lt : c.loop-col.col < length row = omega arith in
    let triples = c.args.document.now.palette.triples in
    let shown = c.rgb.ensures.value ∙ ap (triple_at triples) c.cell-number.ensures.value in
    rw p.1 (piece_cut _ (g.W.Write.contents c.loop-col.writer) _ (λ cell. triple_text (triple_at triples cell))
    row c.loop-col.col 0 lt c.loop-col.invariant.appended (rw shown at c.in_err-send_triple.ensures.err))

pub loop-col-preserved : goal.loop-col-preserved
loop-col-preserved g c =
    let row = row_at c.args.document.now.picture c.args.row in
    let lt : c.loop-col.col < length row = omega arith in
    let triples = c.args.document.now.palette.triples in
    let shown = c.rgb.ensures.value ∙ ap (triple_at triples) c.cell-number.ensures.value in
    let appended =
    piece_sent _ (g.W.Write.contents c.loop-col.writer) _ (λ cell. triple_text (triple_at triples cell))
    row c.loop-col.col 0 lt c.loop-col.invariant.appended (rw shown at c.in_ok-send_triple.ensures.ok) in
    record { wide = c.loop-col.invariant.wide; appended = appended }

use Rattle.std.proofs.Common.{◌<◌, [], length, arith}
use Rattle.std.specs.List.{flat_map}
use Rattle.std.proofs.lemmas.Result.{err_from_is_err_and}
use Rattle.picture.specs.Palette.{triple_at}
use Rattle.picture.proofs.SendingLaws.{piece_cut}
use Rattle.ppm_text.specs.Text.{triple_text}
use Rattle.ppm_text.proofs.writer.send_rows.Goals as goal

pub returns-in_err-send_row-clause-err : goal.returns-in_err-send_row-clause-err
returns-in_err-send_row-clause-err g c =
    let p = err_from_is_err_and c.from_residual.result c.from_residual.ensures.1 in
    let lt : c.loop-row.row < length c.args.document.now.picture = omega arith in
    rw p.1 (piece_cut _ (g.W.Write.contents c.loop-row.writer) _
    (flat_map (λ cell. triple_text (triple_at c.args.document.now.palette.triples cell))) c.args.document.now.picture c.loop-row.row [] lt c.loop-row.invariant.appended c.in_err-send_row.ensures.err)

use Rattle.std.proofs.Common.{◌<◌, length, arith}
use Rattle.std.proofs.lemmas.Result.{err_from_is_err_and}
use Rattle.picture.proofs.SendingLaws.{piece_cut}
use Rattle.cert_text.specs.WrittenCert.{given_text}
use Rattle.cert_text.proofs.writing.send_givens.Goals as goal

pub returns-in_err-send_cell-clause-err : goal.returns-in_err-send_cell-clause-err
returns-in_err-send_cell-clause-err g c =
    let p = err_from_is_err_and c.from_residual.result c.from_residual.ensures.1 in
    let lt : c.loop-i.i < length c.args.givens.now = omega arith in
    rw p.1 (piece_cut _ (g.W.Write.contents c.loop-i.writer) _ given_text c.args.givens.now c.loop-i.i _ lt c.loop-i.invariant c.in_err-send_cell.ensures.err)

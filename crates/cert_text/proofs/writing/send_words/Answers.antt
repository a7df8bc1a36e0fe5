use Rattle.std.proofs.Common.{◌<◌, length, arith}
use Rattle.std.proofs.lemmas.Result.{err_from_is_err_and}
use Rattle.picture.proofs.SendingLaws.{piece_cut}
use Rattle.cert_text.specs.WrittenCert.{word_text}
use Rattle.cert_text.proofs.writing.send_words.Goals as goal

pub returns-in_err-send_word-clause-err : goal.returns-in_err-send_word-clause-err
returns-in_err-send_word-clause-err g c =
    let p = err_from_is_err_and c.from_residual.result c.from_residual.ensures.1 in
    let lt : c.loop-i.i < length c.args.steps.now = omega arith in
    rw p.1 (piece_cut _ (g.W.Write.contents c.loop-i.writer) _ word_text c.args.steps.now c.loop-i.i _ lt c.loop-i.invariant c.in_err-send_word.ensures.err)

use Rattle.std.proofs.Common.{◌≡◌, get_or, arith}
use Rattle.std.specs.List.{range_with_len}
use Rattle.std.proofs.lemmas.List.FromFn.{get_or-range_with_len, length-range_with_len}
use Rattle.std.proofs.lemmas.Result.{err_from_is_err_and}
use Rattle.picture.proofs.SendingLaws.{piece_cut, piece_sent}
use Rattle.cert_text.specs.Letters.{letter_where}
use Rattle.cert_text.proofs.letters.send_letters.Goals as goal

pub returns-in_err-send_letter-clause-err : goal.returns-in_err-send_letter-clause-err
returns-in_err-send_letter-clause-err g c =
    let p = err_from_is_err_and c.from_residual.result c.from_residual.ensures.1 in
    let here : get_or (range_with_len 0 16) c.loop-colour.colour 0 ≡ c.loop-colour.colour = omega (arith, get_or-range_with_len 0 16 c.loop-colour.colour 0 (omega arith)) in
    rw p.1 (piece_cut _ (g.W.Write.contents c.loop-colour.writer) _
    (letter_where c.args.colours) (range_with_len 0 16) c.loop-colour.colour 0 (omega (arith, length-range_with_len 0 16)) c.loop-colour.invariant (rw here c.in_err-send_letter.ensures.err))

pub loop-colour-preserved : goal.loop-colour-preserved
loop-colour-preserved g c =
    let here : get_or (range_with_len 0 16) c.loop-colour.colour 0 ≡ c.loop-colour.colour = omega (arith, get_or-range_with_len 0 16 c.loop-colour.colour 0 (omega arith)) in
    piece_sent _ (g.W.Write.contents c.loop-colour.writer) _
    (letter_where c.args.colours) (range_with_len 0 16) c.loop-colour.colour 0 (omega (arith, length-range_with_len 0 16)) c.loop-colour.invariant (rw here c.in_ok-send_letter.ensures.ok)

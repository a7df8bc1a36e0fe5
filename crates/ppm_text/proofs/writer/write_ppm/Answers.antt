use Rattle.std.proofs.Common.{codes, length}
use Rattle.std.proofs.lemmas.Result.{err_from_is_err_and}
use Rattle.picture.specs.Rows.{width_of}
use Rattle.picture.proofs.SendingLaws.{middle_front}
use Rattle.ppm_text.specs.Text.{rows_text, sizes_text}
use Rattle.ppm_text.proofs.writer.write_ppm.Goals as goal

pub returns-in_err-send_sizes-clause-err : goal.returns-in_err-send_sizes-clause-err
returns-in_err-send_sizes-clause-err g c =
    let p = err_from_is_err_and c.from_residual-in_err-send_sizes.result c.from_residual-in_err-send_sizes.ensures.1 in
    let d = c.args.document.now in
    rw p.1 (middle_front (g.W.Write.contents c.args.writer.now) (g.W.Write.contents c.send.new.writer) (g.W.Write.contents c.send_sizes.new.writer) (codes "P3\n")
    (sizes_text (width_of d.picture) (length d.picture) d.palette.maxval) (rows_text d.palette.triples d.picture) c.in_ok-send.ensures.ok c.in_err-send_sizes.ensures.err)

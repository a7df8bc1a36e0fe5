use Rattle.std.proofs.Common.{◌∙◌, length}
use Rattle.picture.specs.Rows.{width_of}
use Rattle.ppm_text.proofs.Sending.{height_cut}
use Rattle.ppm_text.proofs.writer.send_sizes.Goals as goal

pub returns-in_err-send_number-2-clause-err : goal.returns-in_err-send_number-2-clause-err
returns-in_err-send_number-2-clause-err g c =
    let d = c.args.document.now in
    height_cut c.from_residual-in_err-send_number-2.result _ _ _ c.from.result c.from-2.result (width_of d.picture) (length d.picture) d.palette.maxval (c.from.ensures ∙ c.width.ensures.value)
    (c.from-2.ensures ∙ c.height.ensures.value) c.in_ok-send_number.ensures.ok c.in_err-send_number-2.ensures.err

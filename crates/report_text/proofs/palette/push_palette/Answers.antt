use Rattle.std.proofs.Common.{ap, sym, ◌+◌, ◌++◌, ◌∙◌}
use Rattle.picture.specs.declared.rgb.Rgb.{Rgb}
use Rattle.report_text.specs.Report.{palette_line, palette_lines}
use Rattle.report_text.proofs.ReportLemmas.{palette_more, palette_none}
use Rattle.report_text.proofs.ShownLemmas.{none_pushed, pushed}
use Rattle.report_text.proofs.palette.push_palette.Goals as goal

pub loop-number-init : goal.loop-number-init
loop-number-init c = none_pushed c.args.text.now.items (palette_lines c.args.palette.now.triples 0) (palette_none c.args.palette.now.triples)

pub loop-number-preserved : goal.loop-number-preserved
loop-number-preserved c =
    let triples = c.args.palette.now.triples in
    let n = c.loop-number.number in
    let front = palette_lines triples n in
    let rgb = ap (λ (t : Rgb). front ++ palette_line n t) (sym c.rgb.ensures.value) in
    pushed c.args.text.now.items c.loop-number.text.items c.push_line.new.text.items front (palette_line n c.rgb.result) (palette_lines triples (n + 1))
    c.loop-number.invariant c.in_ok-push_line.ensures (palette_more triples n ∙ rgb)

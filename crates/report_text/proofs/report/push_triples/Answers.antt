use Rattle.std.proofs.Common.{ap, sym, ◌+◌, ◌++◌, ◌∙◌}
use Rattle.picture.specs.declared.rgb.Rgb.{Rgb}
use Rattle.report_text.specs.Report.{colour_line, colour_lines}
use Rattle.report_text.proofs.ReportLemmas.{colours_more, colours_none}
use Rattle.report_text.proofs.ShownLemmas.{none_pushed, pushed}
use Rattle.report_text.proofs.report.push_triples.Goals as goal

pub loop-number-init : goal.loop-number-init
loop-number-init c = none_pushed c.args.text.now.items (colour_lines c.args.palette.now.triples 0) (colours_none c.args.palette.now.triples)

pub loop-number-preserved : goal.loop-number-preserved
loop-number-preserved c =
    let triples = c.args.palette.now.triples in
    let n = c.loop-number.number in
    let front = colour_lines triples n in
    let rgb = ap (λ (t : Rgb). front ++ colour_line n t) (sym c.rgb.ensures.value) in
    pushed c.args.text.now.items c.loop-number.text.items c.push_colour.new.text.items front (colour_line n c.rgb.result) (colour_lines triples (n + 1))
    c.loop-number.invariant c.in_ok-push_colour.ensures (colours_more triples n ∙ rgb)

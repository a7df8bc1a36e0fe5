use Rattle.std.proofs.Common.{◌+◌}
use Rattle.picture.specs.Rows.{width_of}
use Rattle.edits.specs.Design.{design_of}
use Rattle.report_text.specs.Report.{givens_in, row_givens}
use Rattle.report_text.proofs.ReportLemmas.{givens_more, givens_none}
use Rattle.report_text.proofs.ShownLemmas.{none_pushed, pushed}
use Rattle.report_text.proofs.report.push_givens.Goals as goal

pub loop-row-init : goal.loop-row-init
loop-row-init c =
    let d = design_of c.args.document.now in
    none_pushed c.args.text.now.items (givens_in d 0) (givens_none d)

pub loop-row-preserved : goal.loop-row-preserved
loop-row-preserved c =
    let d = design_of c.args.document.now in
    let i = c.loop-row.row in
    pushed c.args.text.now.items c.loop-row.text.items c.push_row_givens.new.text.items (givens_in d i) (row_givens d i (width_of d.rows)) (givens_in d (i + 1))
    c.loop-row.invariant c.in_ok-push_row_givens.ensures (givens_more d i)

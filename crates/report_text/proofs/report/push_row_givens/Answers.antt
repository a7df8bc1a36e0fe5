use Rattle.std.proofs.Common.{◌+◌, ◌++◌, ◌∙◌, List, Vec, Global, ap, sym, ℕ}
use Rattle.edits.specs.Design.{design_of}
use Rattle.report_text.specs.Report.{shown_given, row_givens}
use Rattle.report_text.proofs.ReportLemmas.{row_more, row_none, row_same}
use Rattle.report_text.proofs.ShownLemmas.{none_pushed, pushed}
use Rattle.report_text.proofs.report.push_row_givens.Goals as goal
use Rattle.report_text.proofs.report.push_row_givens.Goals.{then-is_given+in_ok-push_given, else-is_given}

pub loop-col-init : goal.loop-col-init
loop-col-init c =
    let d = design_of c.args.document.now in
    none_pushed c.args.text.now.items (row_givens d c.args.row 0) (row_none d c.args.row)

pub loop-col-preserved : goal.loop-col-preserved
loop-col-preserved c =
    let d = design_of c.args.document.now in
    let i = c.args.row in
    let j = c.loop-col.col in
    let old = c.args.text.now.items in
    let items = λ (v : Vec ℕ Global). v.items in
    elim c.if-is_given.branch [
      | then-is_given+in_ok-push_given w ↦
          ap items w.text-is
          ∙ pushed old c.loop-col.text.items w.push_given.new.text.items (row_givens d i j) (shown_given i j) (row_givens d i (j + 1))
          c.loop-col.invariant w.in_ok-push_given.ensures (row_more d i j (sym c.is_given.ensures ∙ w.if-is_given.true))
      | else-is_given w ↦
          ap items w.text-is ∙ c.loop-col.invariant ∙ ap (λ (text : List ℕ). old ++ text) (sym (row_same d i j (sym c.is_given.ensures ∙ w.if-is_given.false)))
    ]

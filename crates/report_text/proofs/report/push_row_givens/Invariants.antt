use Rattle.std.proofs.Common.{◌≡◌, ◌++◌}
use Rattle.edits.specs.Design.{design_of}
use Rattle.report_text.specs.Report.{row_givens}
use Rattle.report_text.proofs.report.push_row_givens.Given as goal

abbrev pub invariant-loop-col : goal.invariant-loop-col
invariant-loop-col l = l.text.items ≡ l.fn.text.items ++ row_givens (design_of l.document) l.row l.col

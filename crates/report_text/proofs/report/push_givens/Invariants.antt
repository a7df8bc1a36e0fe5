use Rattle.std.proofs.Common.{◌≡◌, ◌++◌}
use Rattle.edits.specs.Design.{design_of}
use Rattle.report_text.specs.Report.{givens_in}
use Rattle.report_text.proofs.report.push_givens.Given as goal

abbrev pub invariant-loop-row : goal.invariant-loop-row
invariant-loop-row l = l.text.items ≡ l.fn.text.items ++ givens_in (design_of l.document) l.row

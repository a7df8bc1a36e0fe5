use Rattle.std.proofs.Common.{◌≡◌, ◌*◌, ◌≤◌, take}
use Rattle.report_text.specs.Report.{open_cells}
use Rattle.report_text.proofs.report.open_cells.Given as goal

abbrev pub invariant-loop-row : goal.invariant-loop-row
invariant-loop-row l = record { so_far : l.count ≡ open_cells (take l.row l.map); small : l.count ≤ 120 * l.row }

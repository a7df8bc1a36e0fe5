use Rattle.std.proofs.Common.{◌≡◌, ◌≤◌, count_by, count_ones, nat_lt, take}
use Rattle.picture.specs.Rows.{row_at}
use Rattle.report_text.proofs.report.open_in_row.Given as goal

abbrev pub invariant-loop-col : goal.invariant-loop-col
invariant-loop-col l = record { so_far : l.count ≡ count_by (λ mask. nat_lt 1 (count_ones mask)) (take l.col (row_at l.map l.row)); small : l.count ≤ l.col }

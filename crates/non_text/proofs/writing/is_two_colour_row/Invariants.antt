use Rattle.std.proofs.Common.{◌≡◌, leb}
use Rattle.std.specs.List.{list_all}
use Rattle.non_text.proofs.writing.is_two_colour_row.Given as goal

abbrev pub invariant-loop-cell : goal.invariant-loop-cell
invariant-loop-cell l = list_all (λ cell. leb cell 1) l.cell-iterator ≡ list_all (λ cell. leb cell 1) l.fn.row

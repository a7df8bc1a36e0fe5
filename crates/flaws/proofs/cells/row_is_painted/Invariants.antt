use Rattle.std.proofs.Common.{◌≡◌, take}
use Rattle.std.specs.Prelude.{◌==◌, false, not}
use Rattle.std.specs.List.{list_any}
use Rattle.picture.specs.Rows.{row_at}
use Rattle.flaws.proofs.cells.row_is_painted.Given as goal

abbrev pub invariant-loop-col : goal.invariant-loop-col
invariant-loop-col l = list_any (λ cell. not (cell == 0)) (take l.col (row_at l.picture l.row)) ≡ false

use Rattle.std.proofs.Common.{◌≡◌, take}
use Rattle.std.specs.Prelude.{◌==◌, false}
use Rattle.std.specs.List.{list_any}
use Rattle.picture.specs.Rows.{row_at}
use Rattle.flaws.proofs.cells.row_has.Given as goal

abbrev pub invariant-loop-col : goal.invariant-loop-col
invariant-loop-col l = list_any (λ cell. cell == l.colour) (take l.col (row_at l.picture l.row)) ≡ false

use Rattle.std.proofs.Common.{◌≡◌, take}
use Rattle.std.specs.Prelude.{◌==◌, false, not}
use Rattle.std.specs.List.{list_any}
use Rattle.flaws.proofs.cells.is_painted.Given as goal

abbrev pub invariant-loop-row : goal.invariant-loop-row
invariant-loop-row l = list_any (λ row. list_any (λ cell. not (cell == 0)) row) (take l.row l.picture) ≡ false

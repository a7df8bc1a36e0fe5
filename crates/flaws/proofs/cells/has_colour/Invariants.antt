use Rattle.std.proofs.Common.{◌≡◌, take}
use Rattle.std.specs.Prelude.{◌==◌, false}
use Rattle.std.specs.List.{list_any}
use Rattle.flaws.proofs.cells.has_colour.Given as goal

abbrev pub invariant-loop-row : goal.invariant-loop-row
invariant-loop-row l = list_any (λ row. list_any (λ cell. cell == l.colour) row) (take l.row l.picture) ≡ false

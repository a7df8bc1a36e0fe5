use Rattle.std.proofs.Common.{◌≡◌, ℕ, ◌<◌}
use Rattle.picture.specs.CellSet.{HasCell}
use Rattle.picture.specs.Rows.{cell_at}
use Rattle.lemma_proof.proofs.making.agrees_in.Given as goal

abbrev pub invariant-loop-row : goal.invariant-loop-row
invariant-loop-row l = (r c : ℕ) → r < l.row → HasCell l.cells r c → cell_at l.other r c ≡ cell_at l.picture r c

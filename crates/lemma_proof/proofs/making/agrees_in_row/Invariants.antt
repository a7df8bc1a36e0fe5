use Rattle.std.proofs.Common.{◌≡◌, ℕ, ◌<◌}
use Rattle.picture.specs.CellSet.{HasCell}
use Rattle.picture.specs.Rows.{cell_at}
use Rattle.lemma_proof.proofs.making.agrees_in_row.Given as goal

abbrev pub invariant-loop-col : goal.invariant-loop-col
invariant-loop-col l = (c : ℕ) → c < l.col → HasCell l.cells l.row c → cell_at l.other l.row c ≡ cell_at l.picture l.row c

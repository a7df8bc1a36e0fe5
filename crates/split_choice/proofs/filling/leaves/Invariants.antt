use Rattle.std.proofs.Common.{◌<◌, ℕ}
use Rattle.picture.specs.Rows.{cell_at, width_of}
use Rattle.line_facts.specs.FactSets.{Leaves}
use Rattle.split_choice.proofs.filling.leaves.Given as goal

abbrev pub invariant-loop-row : goal.invariant-loop-row
invariant-loop-row l = (row col : ℕ) → row < l.row → col < width_of l.facts → Leaves l.facts row col (cell_at l.picture row col)

abbrev pub invariant-loop-col : goal.invariant-loop-col
invariant-loop-col l = (col : ℕ) → col < l.col → Leaves l.facts l.row col (cell_at l.picture l.row col)

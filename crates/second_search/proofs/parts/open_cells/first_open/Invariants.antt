use Rattle.std.proofs.Common.{ℕ, ◌<◌}
use Rattle.second_search.specs.Parts.{IsOpenCell}
use Rattle.second_search.proofs.parts.open_cells.first_open.Given as goal

abbrev pub invariant-loop-col : goal.invariant-loop-col
invariant-loop-col l = (c : ℕ) → c < l.col → IsOpenCell l.facts l.row c → ⊥

use Rattle.std.proofs.Common.{ℕ, ◌<◌}
use Rattle.picture.specs.Rows.{cell_at}
use Rattle.line_facts.specs.Masks.{IsOnly}
use Rattle.second_search.proofs.looking.unsettled_in_row.Given as goal

abbrev pub invariant-loop-col : goal.invariant-loop-col
invariant-loop-col l = (c : ℕ) → c < l.col → (k : ℕ) × IsOnly (cell_at l.facts l.row c) k

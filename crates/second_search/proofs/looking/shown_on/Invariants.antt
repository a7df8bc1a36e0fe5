use Rattle.std.proofs.Common.{◌≡◌, ◌≤◌, ℕ, ◌<◌}
use Rattle.picture.specs.Rows.{width_of, cell_at}
use Rattle.line_facts.specs.Masks.{IsOnly}
use Rattle.line_facts.specs.FactSets.{SameShape}
use Rattle.second_search.proofs.looking.shown_on.Given as goal

abbrev pub invariant-loop-row : goal.invariant-loop-row
invariant-loop-row l = record {
  same_shape : SameShape l.shown l.facts;
  above : (r c : ℕ) → r < l.row → c < width_of l.facts → IsOnly (cell_at l.facts r c) (cell_at l.shown r c);
  below : (r c : ℕ) → l.row ≤ r → cell_at l.shown r c ≡ cell_at l.fn.picture r c;
}

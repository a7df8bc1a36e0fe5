use Rattle.std.proofs.Common.{◌≡◌, ℕ, ◌<◌}
use Rattle.picture.specs.Rows.{cell_at}
use Rattle.line_facts.specs.FactSets.{SameShape}
use Rattle.trail.proofs.trail.Trail.narrow_row.Given as goal

abbrev pub invariant-loop-col : goal.invariant-loop-col
invariant-loop-col l = record {
  same_shape : SameShape l.fn.self.at_hand l.self.at_hand;
  behind : l.self.behind ≡ l.fn.self.behind;
  cells : l.self.cells ≡ l.fn.self.cells;
  here : (c : ℕ) → c < l.col → cell_at l.self.at_hand l.row c ≡ cell_at l.settled l.row c;
  elsewhere : (r c : ℕ) → (r ≡ l.row → ⊥) → cell_at l.self.at_hand r c ≡ cell_at l.fn.self.at_hand r c;
}

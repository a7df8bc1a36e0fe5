use Rattle.std.proofs.Common.{◌≡◌, ℕ, ◌<◌}
use Rattle.picture.specs.Rows.{cell_at}
use Rattle.line_facts.specs.Masks.{IsOnly}
use Rattle.line_facts.specs.FactSets.{SameShape}
use Rattle.second_search.proofs.looking.show_row.Given as goal

abbrev pub invariant-loop-col : goal.invariant-loop-col
invariant-loop-col l = record {
  same_shape : SameShape l.picture l.facts;
  here : (c : ℕ) → c < l.col → IsOnly (cell_at l.facts l.row c) (cell_at l.picture l.row c);
  elsewhere : (r c : ℕ) → (r ≡ l.row → ⊥) → cell_at l.picture r c ≡ cell_at l.fn.picture r c;
}

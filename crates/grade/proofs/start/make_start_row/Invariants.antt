use Rattle.std.proofs.Common.{◌≡◌, ◌<◌, ◌↔◌, ℕ}
use Rattle.std.specs.Prelude.{IsBitSet}
use Rattle.picture.specs.Rows.{cell_at}
use Rattle.line_facts.specs.FactSets.{SameShape, Leaves}
use Rattle.grade.specs.Starts.{CanHaveColour}
use Rattle.grade.proofs.start.make_start_row.Given as goal

abbrev pub invariant-loop-col : goal.invariant-loop-col
invariant-loop-col l = record {
  same_shape : SameShape l.document.picture l.facts;
  left : (c k : ℕ) → c < l.col → Leaves l.facts l.row c k ↔ CanHaveColour (IsBitSet l.free) l.document.givens l.document.picture l.row c k;
  elsewhere : (r c : ℕ) → (r ≡ l.row → ⊥) → cell_at l.facts r c ≡ cell_at l.initial.facts r c;
}

use Rattle.std.proofs.Common.{◌<◌, ◌↔◌, ℕ}
use Rattle.picture.specs.Rows.{width_of}
use Rattle.line_facts.specs.FactSets.{SameShape, IsOpen, Leaves}
use Rattle.line_facts.proofs.facts.Facts.base.Given as goal

abbrev pub invariant-loop-row : goal.invariant-loop-row
invariant-loop-row l = record {
  same_shape : SameShape l.document.picture l.facts;
  left : (r c k : ℕ) → r < l.row → c < width_of l.document.picture → Leaves l.facts r c k ↔ IsOpen l.document.givens l.document.picture r c k;
}

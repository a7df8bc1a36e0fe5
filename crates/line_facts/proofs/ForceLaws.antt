-- Laws of what forcing a line does to facts.
use Rattle.std.proofs.Common.{◌≡◌, ℕ, List, refl, sym, ap, subst, ◌∙◌, ◌⊎◌, inl, inr, get_or}
use Rattle.std.specs.Prelude.{IsBitSet}
use Rattle.std.proofs.lemmas.Bool.{cases_eq}
use Rattle.line_facts.specs.Masks.{Masks}
use Rattle.picture.specs.declared.line_id.Axis.{Axis}
use Rattle.picture.specs.declared.line_id.Axis.TheVariants.{Across, Down}
use Rattle.picture.specs.declared.line_id.LineId.{LineId}
use Rattle.picture.specs.Rows.{cell_at, line_of}
use Rattle.clues.specs.declared.block.Block.{Block}
use Rattle.line_facts.specs.declared.line_engine.Outcome.{Outcome}
use Rattle.line_facts.specs.FactSets.{Gains, IsClosedLine, IsOn, IsWithin, Leaves, col_on, row_on}
use Rattle.line_facts.proofs.GridLaws.{cell_on, shape_sym, shape_trans}
use Rattle.line_facts.proofs.FitLaws.{have_left, have_narrowed, tighter_have, within_tighter}

on_along : (axis : Axis) (at row col : ℕ) → ((i : ℕ) × (row ≡ row_on axis at i) × (col ≡ col_on axis at i)) ⊎ ((i : ℕ) × (row ≡ row_on axis at i) × (col ≡ col_on axis at i) → ⊥)
on_along Across at row col = elim (cases_eq row at) [ inl e ↦ inl (col, e, refl) | inr n ↦ inr (λ o. n o.1) ]
on_along Down at row col = elim (cases_eq col at) [ inl e ↦ inl (row, refl, e) | inr n ↦ inr (λ o. n o.2) ]

pub on_or_not : (line : LineId) (row col : ℕ) → IsOn line row col ⊎ (IsOn line row col → ⊥)
on_or_not line row col = on_along line.axis line.at row col

-- what is left in a cell of a line is left at its place on the line
on_line : (line : LineId) (facts : Masks) (row col k : ℕ) (on : IsOn line row col) → Leaves facts row col k → IsBitSet (get_or (line_of facts line) on.0 0) k
on_line line facts row col k on s =
    let e : cell_at facts row col ≡ get_or (line_of facts line) on.0 0 = ap (λ r. cell_at facts r col) on.1
    ∙ (ap (λ c. cell_at facts (row_on line.axis line.at on.0) c) on.2 ∙ sym (cell_on facts line on.0)) in
    let P : ℕ → Type 0 = λ m. IsBitSet m k in
    subst P e s

by_line : (line : LineId) (facts : Masks) (row col k : ℕ) (on : IsOn line row col) → IsBitSet (get_or (line_of facts line) on.0 0) k → Leaves facts row col k
by_line line facts row col k on s =
    let e : cell_at facts row col ≡ get_or (line_of facts line) on.0 0 = ap (λ r. cell_at facts r col) on.1
    ∙ (ap (λ c. cell_at facts (row_on line.axis line.at on.0) c) on.2 ∙ sym (cell_on facts line on.0)) in
    let P : ℕ → Type 0 = λ m. IsBitSet m k in
    subst P (sym e) s

pub gains_grows : (clue : List Block) (line : LineId) (old new : Masks) (outcome : Outcome) → Gains clue line old new outcome → IsWithin old new
gains_grows clue line old new outcome g = record {
  same_shape = g.same_shape;
  leaves = λ row col k s. elim (on_or_not line row col) [
    | inl on ↦ by_line line old row col k on (have_left ((g.narrows.exact on.0 k).0 (on_line line new row col k on s)))
    | inr off ↦ let P : ℕ → Type 0 = λ m. IsBitSet m k in subst P (g.elsewhere row col off) s
  ];
}

pub gains_inside : (clue : List Block) (line : LineId) (old new : Masks) (outcome : Outcome) → Gains clue line old new outcome → (others : Masks) → IsWithin old others
    → IsClosedLine clue (line_of others line) → IsWithin new others
gains_inside clue line old new outcome g others w closed = record {
  same_shape = shape_trans (shape_sym g.same_shape) w.same_shape;
  leaves = λ row col k s. elim (on_or_not line row col) [
    | inl on ↦
        let h = closed on.0 k (on_line line others row col k on s) in
        by_line line new row col k on ((g.narrows.exact on.0 k).1 (tighter_have clue (line_of old line) (line_of others line) (within_tighter old others w line) on.0 k h))
    | inr off ↦ let P : ℕ → Type 0 = λ m. IsBitSet m k in subst P (sym (g.elsewhere row col off)) (w.leaves row col k s)
  ];
}

pub gains_closes : (clue : List Block) (line : LineId) (old new : Masks) (outcome : Outcome) → Gains clue line old new outcome → IsClosedLine clue (line_of new line)
gains_closes clue line old new outcome g = λ i k s. have_narrowed clue (line_of old line) (line_of new line) outcome g.narrows i k ((g.narrows.exact i k).0 s)

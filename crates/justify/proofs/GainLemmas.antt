-- Facts that gain what a step draws, premise after premise.
use Rattle.std.proofs.Common.{◌≡◌, ℕ, ◌+◌, ◌<◌, ◌↔◌, List, sym, ap, ◌∙◌, subst, arith, inl, inr}
use Rattle.std.specs.Prelude.{IsBitSet}
use Rattle.std.proofs.lemmas.Bool.{cases_eq}
use Rattle.line_facts.specs.Masks.{Masks}
use Rattle.picture.specs.declared.line_id.LineId.{LineId}
use Rattle.picture.specs.Rows.{cell_at}
use Rattle.line_facts.specs.FactSets.{Leaves, SameShape, ExcludesAt, row_on, col_on}
use Rattle.justify.specs.declared.premise.Premise.{Premise}
use Rattle.justify.specs.Premises.{premise_at}
use Rattle.line_facts.proofs.GridLaws.{shape_trans}

-- one of the first n premises says that colour k is not in a cell
pub record DrawnSoFar (line : LineId) (premises : List Premise) (n row col k : ℕ) : Type 0 where
  pub which : ℕ
  pub below : which < n
  pub in_row : row ≡ row_on line.axis line.at (premise_at premises which).at
  pub in_column : col ≡ col_on line.axis line.at (premise_at premises which).at
  pub colour : IsBitSet (premise_at premises which).colours k

pub record Gaining (line : LineId) (premises : List Premise) (n : ℕ) (old new : Masks) : Type 0 where
  pub same_shape : SameShape old new
  pub leaves : (row col k : ℕ) → Leaves new row col k ↔ (Leaves old row col k × (DrawnSoFar line premises n row col k → ⊥))

same_cell : (facts : Masks) (row col r c : ℕ) → row ≡ r → col ≡ c → cell_at facts row col ≡ cell_at facts r c
same_cell facts row col r c e f = ap (λ n. cell_at facts n col) e ∙ ap (λ n. cell_at facts r n) f

module _ (line : LineId) (premises : List Premise) (n : ℕ) (old : Masks) (now after : List (List ℕ)) (g : Gaining line premises n old now)
    (x : ExcludesAt now after (row_on line.axis line.at (premise_at premises n).at) (col_on line.axis line.at (premise_at premises n).at) (premise_at premises n).colours) where
  before_or_here : (row col k : ℕ) → (d : DrawnSoFar line premises (n + 1) row col k) → (DrawnSoFar line premises n row col k → ⊥) → d.which ≡ n
  before_or_here row col k d none = elim (cases_eq d.which n) [
    | inl e ↦ e
    | inr other ↦ absurd (none (record { which = d.which; below = (let b = d.below in omega arith); in_row = d.in_row; in_column = d.in_column; colour = d.colour }))
  ]

  fewer : (row col k : ℕ) → (DrawnSoFar line premises (n + 1) row col k → ⊥) → DrawnSoFar line premises n row col k → ⊥
  fewer row col k none d = none (record { which = d.which; below = (let b = d.below in omega arith); in_row = d.in_row; in_column = d.in_column; colour = d.colour })

  gained_here : (row col k : ℕ) → row ≡ row_on line.axis line.at (premise_at premises n).at → col ≡ col_on line.axis line.at (premise_at premises n).at
      → Leaves after row col k ↔ (Leaves old row col k × (DrawnSoFar line premises (n + 1) row col k → ⊥))
  gained_here row col k r c =
      let P : ℕ → Type 0 = λ m. IsBitSet m k in
      let at = λ (facts : Masks). same_cell facts row col _ _ r c in (
        (λ s.
            let h = (x.here k).0 (subst P (at after) s) in
            let o = (g.leaves row col k).0 (subst P (sym (at now)) h.0) in (
              o.0,
              λ d.
                  let e = before_or_here row col k d o.1 in
                  h.1 (let Q : ℕ → Type 0 = λ m. IsBitSet (premise_at premises m).colours k in subst Q e d.colour),
            )),
        (λ p.
            let m = (g.leaves row col k).1 (p.0, fewer row col k p.1) in
            let not_said = λ (b : IsBitSet (premise_at premises n).colours k). p.1 (record { which = n; below = omega arith; in_row = r; in_column = c; colour = b }) in
            subst P (sym (at after)) ((x.here k).1 (subst P (at now) m, not_said))),
      )

  gained_apart : (row col k : ℕ) → ((row ≡ row_on line.axis line.at (premise_at premises n).at) × (col ≡ col_on line.axis line.at (premise_at premises n).at) → ⊥)
      → Leaves after row col k ↔ (Leaves old row col k × (DrawnSoFar line premises (n + 1) row col k → ⊥))
  gained_apart row col k apart = grind (arith, before_or_here, col_on, fewer, premise_at, row_on)

  pub gaining_more : Gaining line premises (n + 1) old after
  gaining_more = record {
    same_shape = shape_trans g.same_shape x.same_shape;
    leaves = λ row col k. elim (cases_eq row (row_on line.axis line.at (premise_at premises n).at)) [
      | inr d ↦ gained_apart row col k (λ p. d p.0)
      | inl r ↦ elim (cases_eq col (col_on line.axis line.at (premise_at premises n).at)) [
        | inl c ↦ gained_here row col k r c
        | inr d ↦ gained_apart row col k (λ p. d p.1)
      ]
    ];
  }

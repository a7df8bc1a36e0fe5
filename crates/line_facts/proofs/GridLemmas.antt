-- Grids of masks, their lines, and one cell changed.
use Rattle.std.proofs.Common.{◌≡◌, ℕ, ◌<◌, List, sym, subst, ◌∙◌, arith, length, bit_and, ◌^◌, ◌↔◌}
use Rattle.picture.specs.Rows.{width_of, cell_at, with_cell}
use Rattle.std.specs.Prelude.{IsBitSet}
use Rattle.std.specs.Int.{bit_not, w16}
use Rattle.line_facts.specs.Masks.{Masks}
use Rattle.line_facts.specs.FactSets.{IsFacts, ExcludesAt}
use Rattle.line_facts.proofs.MaskLaws.{without_bit}
use Rattle.line_facts.proofs.GridLaws.{shape_with_cell, at_with_cell, off_with_cell}

pub excludes_at : (old new : Masks) (row col mask colours : ℕ) → IsFacts old → row < length old → col < width_of old → colours < 2 ^ 16 → mask ≡ bit_and (cell_at old row col) (bit_not w16 colours)
    → new ≡ with_cell old row col mask → ExcludesAt old new row col colours
excludes_at old new row col mask colours is h w small m e =
    let P : List (List ℕ) → Type 0 = λ rows. ExcludesAt old rows row col colours in
    let at : cell_at (with_cell old row col mask) row col ≡ bit_and (cell_at old row col) (bit_not w16 colours) =
    at_with_cell old row col mask h (let r = is.rectangular row h in omega arith) ∙ m in
    let Q : ℕ → Type 0 = λ n. (k : ℕ) → IsBitSet n k ↔ (IsBitSet (cell_at old row col) k × (IsBitSet colours k → ⊥)) in
    subst P (sym e) (record {
      same_shape = shape_with_cell old row col mask;
      here = subst Q (sym at) (λ k. without_bit (cell_at old row col) colours k (is.masks row col) small);
      elsewhere = λ r c n. off_with_cell old row col mask r c n;
    })

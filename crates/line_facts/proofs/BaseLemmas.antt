-- What the givens alone say.
use Rattle.std.proofs.Common.{◌≡◌, ℕ, ◌*◌, ◌%◌, ◌^◌, ◌<◌, List, ◌↔◌, sym, subst, ◌∙◌, arith}
use Rattle.std.specs.Prelude.{IsBitSet}
use Rattle.picture.specs.Rows.{cell_at, Rows}
use Rattle.picture.specs.CellSet.{HasCell}
use Rattle.line_facts.specs.FactSets.{IsOpen}
use Rattle.line_facts.proofs.MaskLaws.{shifted, full_has}
use Rattle.picture.proofs.BitLaws.{power_has, bit_below}

pub given_open : (givens : List ℕ) (picture : Rows) (row col mask k : ℕ) → HasCell givens row col → cell_at picture row col < 16 → mask ≡ 1 * 2 ^ cell_at picture row col % 65536
    → IsBitSet mask k ↔ IsOpen givens picture row col k
given_open givens picture row col mask k g h e =
    let c = cell_at picture row col in
    let P : ℕ → Type 0 = λ m. IsBitSet m k ↔ IsOpen givens picture row col k in
    subst P (sym (e ∙ shifted c h)) (
      (λ s. let i = (power_has c k).0 s in ((let l : k < 16 = omega arith in l), (λ _. i))),
      (λ o. (power_has c k).1 (o.1 g)),
    )

pub free_open : (givens : List ℕ) (picture : Rows) (row col mask k : ℕ) → (HasCell givens row col → ⊥) → mask ≡ 65535 → IsBitSet mask k ↔ IsOpen givens picture row col k
free_open givens picture row col mask k n e =
    let P : ℕ → Type 0 = λ m. IsBitSet m k ↔ IsOpen givens picture row col k in
    subst P (sym e) (
      (λ s. (bit_below 65535 16 k (omega arith) s, (λ g. absurd (n g)))),
      (λ o. full_has k o.0),
    )

pub ruleset masks = (given_open, free_open)

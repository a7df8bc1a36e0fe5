-- The facts with which line logic starts.
use Rattle.std.proofs.Common.{◌≡◌, ℕ, ◌+◌, ◌*◌, ◌%◌, ◌^◌, ◌<◌, ◌≤◌, ◌⊎◌, List, [], length, get_or, ◌↔◌, sym, ap, subst, ◌∙◌, arith, inl, inr, bit_or}
use Rattle.std.specs.Prelude.{IsBitSet}
use Rattle.std.proofs.lemmas.Bool.{cases_eq}
use Rattle.std.proofs.lemmas.Nat.Bits.{bit_at_or, bit_at-lt}
use Rattle.picture.specs.declared.line_id.Axis.TheVariants.{Across, Down}
use Rattle.clues.specs.declared.block.Block.{Block}
use Rattle.clues.specs.Clue.{block}
use Rattle.clues.specs.ClueBook.{Clues}
use Rattle.picture.specs.Rows.{cell_at, width_of, Rows}
use Rattle.picture.specs.CellSet.{HasCell}
use Rattle.line_facts.specs.Masks.{Masks}
use Rattle.line_facts.specs.FactSets.{Leaves, SameShape}
use Rattle.grade.specs.Starts.{CanHaveColour, HasColour, IsAllowed, IsNamedAlong, IsStart, MakesStartRow}
use Rattle.line_facts.proofs.MaskLaws.{shifted}
use Rattle.picture.proofs.BitLaws.{bit_is_set, bit_or_not, power_has, set_bit, unset}

pub given_mask : (givens : List ℕ) (picture : Rows) (row col free mask k : ℕ) → HasCell givens row col → cell_at picture row col < 16 → mask ≡ 1 * 2 ^ cell_at picture row col % 65536
    → IsBitSet mask k ↔ CanHaveColour (IsBitSet free) givens picture row col k
given_mask givens picture row col free mask k g h e =
    let c = cell_at picture row col in
    let P : ℕ → Type 0 = λ m. IsBitSet m k ↔ CanHaveColour (IsBitSet free) givens picture row col k in
    subst P (sym (e ∙ shifted c h)) (
      (λ s. ((λ _. (power_has c k).0 s), (λ n. absurd (n g)))),
      (λ o. (power_has c k).1 (o.0 g)),
    )

pub free_mask : (givens : List ℕ) (picture : Rows) (row col free k : ℕ) → (HasCell givens row col → ⊥) → IsBitSet free k ↔ CanHaveColour (IsBitSet free) givens picture row col k
free_mask givens picture row col free k n = ((λ s. ((λ g. absurd (n g)), (λ _. s))), (λ o. o.1 n))

-- the bits of two masks together
pub either : (a b k : ℕ) → IsBitSet (bit_or a b) k ↔ (IsBitSet a k ⊎ IsBitSet b k)
either a b k =
    let both = bit_at_or a b k in
    let x = bit_at-lt a k in
    let y = bit_at-lt b k in (
      (λ s.
          let one = set_bit (bit_or a b) k s in
          elim (bit_or_not a k) [ inl is ↦ inl is | inr isnt ↦ let none = unset a k isnt in inr (bit_is_set b k (omega arith)) ]),
      (λ s. bit_is_set (bit_or a b) k (elim s [ inl is ↦ let one = set_bit a k is in omega arith | inr is ↦ let one = set_bit b k is in omega arith ])),
    )

-- a mask with one colour more
pub with_colour : (mask colour k : ℕ) → colour < 16 → IsBitSet (bit_or mask (1 * 2 ^ colour % 65536)) k ↔ (IsBitSet mask k ⊎ (k ≡ colour))
with_colour mask colour k small =
    let e = either mask (1 * 2 ^ colour % 65536) k in
    let P : ℕ → Type 0 = λ m. IsBitSet m k in
    let same = shifted colour small in (
      (λ s. elim (e.0 s) [ inl is ↦ inl is | inr is ↦ inr ((power_has colour k).0 (subst P same is)) ]),
      (λ s. e.1 (elim s [ inl is ↦ inl is | inr c ↦ inr (subst P (sym same) ((power_has colour k).1 c)) ])),
    )

-- the colours of one block more
pub block_more : (clue : List Block) (mask i : ℕ) (b : Block) → b ≡ get_or clue i (block 0 0) → b.colour < 16
    → ((k : ℕ) → IsBitSet mask k ↔ ((j : ℕ) × (j < i) × ((get_or clue j (block 0 0)).colour ≡ k)))
    → (k : ℕ) → IsBitSet (bit_or mask (1 * 2 ^ b.colour % 65536)) k ↔ ((j : ℕ) × (j < i + 1) × ((get_or clue j (block 0 0)).colour ≡ k))
block_more clue mask i b e small so_far k =
    let w = with_colour mask b.colour k small in
    let same = ap (λ (x : Block). x.colour) e in (
      (λ s. elim (w.0 s) [
        | inl is ↦ let h = (so_far k).0 is in (h.0, (let l = h.1 in omega arith), h.2)
        | inr c ↦ (i, omega arith, sym same ∙ sym c)
      ]),
      (λ h. w.1 (elim (cases_eq h.0 i) [
        | inl last ↦ inr (sym (same ∙ (ap (λ n. (get_or clue n (block 0 0)).colour) (sym last) ∙ h.2)))
        | inr other ↦ inl ((so_far k).1 (h.0, (let l = h.1 in omega arith), h.2))
      ])),
    )

-- the colours of one clue more
pub clue_more : (clues : List (List Block)) (mask more at : ℕ) → ((k : ℕ) → IsBitSet more k ↔ HasColour (get_or clues at []) k)
    → ((k : ℕ) → IsBitSet mask k ↔ ((i : ℕ) × (i < at) × HasColour (get_or clues i []) k))
    → (k : ℕ) → IsBitSet (bit_or mask more) k ↔ ((i : ℕ) × (i < at + 1) × HasColour (get_or clues i []) k)
clue_more clues mask more at last so_far k =
    let w = either mask more k in (
      (λ s. elim (w.0 s) [
        | inl is ↦ let h = (so_far k).0 is in (h.0, (let l = h.1 in omega arith), h.2)
        | inr is ↦ (at, omega arith, (last k).0 is)
      ]),
      (λ h. w.1 (elim (cases_eq h.0 at) [
        | inl e ↦ inr ((last k).1 (let P : ℕ → Type 0 = λ n. HasColour (get_or clues n []) k in subst P e h.2))
        | inr other ↦ inl ((so_far k).1 (h.0, (let l = h.1 in omega arith), h.2))
      ])),
    )

-- the background, and the colours that the clues name
pub all_named : (clues : Clues) (rows columns k : ℕ) → IsBitSet rows k ↔ IsNamedAlong Across clues k → IsBitSet columns k ↔ IsNamedAlong Down clues k
    → IsBitSet (bit_or (bit_or rows columns) 1) k ↔ IsAllowed clues k
all_named clues rows columns k across down =
    let two = either rows columns k in
    let all = either (bit_or rows columns) 1 k in
    let background = power_has 0 k in (
      (λ s. elim (all.0 s) [
        | inl is ↦ inr (elim (two.0 is) [ inl r ↦ inl (across.0 r) | inr c ↦ inr (down.0 c) ])
        | inr is ↦ inl (background.0 is)
      ]),
      (λ h. all.1 (elim h [
        | inl e ↦ inr (background.1 e)
        | inr n ↦ inl (two.1 (elim n [ inl r ↦ inl (across.1 r) | inr c ↦ inr (down.1 c) ]))
      ])),
    )

-- the first rows have the colours that can be there
pub record Started (free : ℕ) (givens : List ℕ) (picture : Rows) (facts : Masks) (rows : ℕ) : Type 0 where
  pub same_shape : SameShape picture facts
  pub left : (r c k : ℕ) → r < rows → c < width_of picture → Leaves facts r c k ↔ CanHaveColour (IsBitSet free) givens picture r c k

pub row_started : (free : ℕ) (givens : List ℕ) (picture : Rows) (old new : Masks) (row : ℕ) → Started free givens picture old row → MakesStartRow free givens picture old new row
    → Started free givens picture new (row + 1)
row_started free givens picture old new row s m = record {
  same_shape = m.same_shape;
  left = λ r c k l w. elim (cases_eq r row) [
    | inl e ↦ let P : ℕ → Type 0 = λ n. Leaves new n c k ↔ CanHaveColour (IsBitSet free) givens picture n c k in subst P (sym e) (m.left c k w)
    | inr other ↦
        let P : ℕ → Type 0 = λ n. IsBitSet n k ↔ CanHaveColour (IsBitSet free) givens picture r c k in
        subst P (sym (m.elsewhere r c other)) (s.left r c k (omega arith) w)
  ];
}

pub all_started : (clues : Clues) (free : ℕ) (givens : List ℕ) (picture : Rows) (facts : Masks) (rows : ℕ) → ((k : ℕ) → IsBitSet free k ↔ IsAllowed clues k) → length picture ≤ rows
    → Started free givens picture facts rows → IsStart clues givens picture facts
all_started clues free givens picture facts rows allowed whole s = record {
  same_shape = s.same_shape;
  left = λ row col k r c.
      let left = s.left row col k (omega arith) c in (
        (λ h. let can = left.0 h in (can.0, λ n. (allowed k).0 (can.1 n))),
        (λ can. left.1 (can.0, λ n. (allowed k).1 (can.1 n))),
      );
}

pub ruleset masks = (given_mask, free_mask)

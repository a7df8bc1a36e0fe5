-- The base of givens, cell by cell.
use Rattle.std.proofs.Common.{◌≡◌, ℕ, ◌^◌, ◌<◌, List, [], ◌↔◌, refl, sym, ap, subst, ◌∙◌, arith, inl, inr, length, get_or, replicate}
use Rattle.std.specs.Prelude.{IsBitSet}
use Rattle.std.proofs.lemmas.Bool.{cases_eq, cases_lt}
use Rattle.std.proofs.lemmas.List.{get_or_past, get_or-replicate}
use Rattle.line_facts.specs.Masks.{Masks}
use Rattle.picture.specs.CellSet.{HasCell, PutsCell}
use Rattle.picture.specs.Picture.{IsPicture}
use Rattle.picture.specs.Rows.{width_of, row_at, cell_at, Rows}
use Rattle.line_facts.specs.FactSets.{SameShape, IsBase, IsOpen, Leaves, nothing_excluded, with_given}
use Rattle.line_facts.specs.Laws.{BaseIsCellByCell}
use Rattle.line_facts.proofs.MaskLaws.{only_is_power, full_has}
use Rattle.picture.proofs.BitLaws.{same_bits, bit_below, no_bit, power_has}
use Rattle.line_facts.proofs.GridLaws.{full_shape, all_left, shape_with_cell, at_with_cell, off_with_cell, shape_trans, shape_sym}
use Rattle.line_facts.proofs.FitLaws.{same_facts}

-- ---- one cell

given_mask : (givens : List ℕ) (picture : Rows) (facts : Masks) → IsBase givens picture facts → (row col : ℕ) → row < length picture → col < width_of picture → cell_at picture row col < 16
    → HasCell givens row col → cell_at facts row col ≡ 2 ^ cell_at picture row col
given_mask givens picture facts b row col h w small g =
    only_is_power (cell_at facts row col) (cell_at picture row col)
    (λ k. (
      (λ s. ((b.left row col k h w).0 s).1 g),
      (λ e. (b.left row col k h w).1 ((let l : k < 16 = omega arith in l), (λ _. e))),
    ))

free_mask : (givens : List ℕ) (picture : Rows) (facts : Masks) → IsBase givens picture facts → (row col : ℕ) → row < length picture → col < width_of picture → (HasCell givens row col → ⊥)
    → cell_at facts row col ≡ 65535
free_mask givens picture facts b row col h w n =
    same_bits (cell_at facts row col) 65535
    (λ k. (
      (λ s. full_has k ((b.left row col k h w).0 s).0),
      (λ s. (b.left row col k h w).1 (bit_below 65535 16 k (omega arith) s, (λ g. absurd (n g)))),
    ))

-- ---- what lies outside

-- no colour is left outside the grid
nothing_outside : (picture : Rows) (facts : Masks) → IsPicture picture → SameShape picture facts → (row col k : ℕ) → (row < length picture → col < width_of picture → ⊥) → Leaves facts row col k → ⊥
nothing_outside picture facts is shape row col k n s = elim (cases_lt row (length facts)) [
  | inl l ↦
      let e = shape.each row in
      let r = is.rectangular row (omega arith) in
      elim (cases_lt col (length (row_at facts row))) [
        | inl m ↦ n (omega arith) (omega arith)
        | inr p ↦ no_bit k (let P : ℕ → Type 0 = λ m. IsBitSet m k in subst P (get_or_past (row_at facts row) col 0 p) s)
      ]
  | inr p ↦
      let P : ℕ → Type 0 = λ m. IsBitSet m k in
      no_bit k (subst P (ap (λ (r : List ℕ). get_or r col 0) (get_or_past facts row [] p)) s)
]

-- facts of a picture's shape in which the same is left in each of its cells
same_inside : (picture : Rows) (one : List (List ℕ)) (other : Rows) → IsPicture picture → SameShape picture one → SameShape picture other
    → ((row col k : ℕ) → row < length picture → col < width_of picture → Leaves one row col k ↔ Leaves other row col k) → one ≡ other
same_inside picture one other is s t h = same_facts one other (shape_trans (shape_sym s) t) (λ row col k.
    let out : (facts : Masks) → SameShape picture facts → Leaves facts row col k → (row < length picture → col < width_of picture → ⊥) → ⊥ =
    λ facts f l n. nothing_outside picture facts is f row col k n l in
    elim (cases_lt row (length picture)) [
      | inl in_rows ↦ elim (cases_lt col (width_of picture)) [
        | inl in_columns ↦ h row col k in_rows in_columns
        | inr p ↦ ((λ l. absurd (out one s l (λ _ w. omega arith))), (λ l. absurd (out other t l (λ _ w. omega arith))))
      ]
      | inr p ↦ ((λ l. absurd (out one s l (λ w _. omega arith))), (λ l. absurd (out other t l (λ w _. omega arith))))
    ])

-- ---- one base

same_open : (givens same : List ℕ) (picture : Rows) (row col k : ℕ) → (HasCell same row col → HasCell givens row col) → IsOpen givens picture row col k → IsOpen same picture row col k
same_open givens same picture row col k h o = (o.0, (λ g. o.1 (h g)))

one_base : (picture : Rows) → IsPicture picture → (givens same : List ℕ) → ((row col : ℕ) → HasCell givens row col ↔ HasCell same row col) → (facts others : Masks) → IsBase givens picture facts
    → IsBase same picture others → facts ≡ others
one_base picture is givens same h facts others b c = same_inside picture facts others is b.same_shape c.same_shape (λ row col k in_rows in_columns. (
  (λ l. (c.left row col k in_rows in_columns).1 (same_open givens same picture row col k (h row col).1 ((b.left row col k in_rows in_columns).0 l))),
  (λ l. (b.left row col k in_rows in_columns).1 (same_open same givens picture row col k (h row col).0 ((c.left row col k in_rows in_columns).0 l))),
))

-- ---- no givens

pub full_base : (picture : Rows) → IsPicture picture → (givens : List ℕ) → ((row col : ℕ) → HasCell givens row col → ⊥) → IsBase givens picture (nothing_excluded (length picture) (width_of picture))
full_base picture is givens n = record {
  same_shape = full_shape picture is;
  left = λ row col k h w.
      let e : cell_at (nothing_excluded (length picture) (width_of picture)) row col ≡ 65535 =
      ap (λ (r : List ℕ). get_or r col 0) (get_or-replicate (length picture) row (replicate (width_of picture) 65535) [] h) ∙ get_or-replicate (width_of picture) col 65535 0 w in
      let P : ℕ → Type 0 = λ m. IsBitSet m k in (
        (λ s. (bit_below 65535 16 k (omega arith) (subst P e s), (λ g. absurd (n row col g)))),
        (λ o. all_left (length picture) (width_of picture) row col k h w o.0),
      );
}

no_givens : (picture : Rows) → IsPicture picture → (givens : List ℕ) → ((row col : ℕ) → HasCell givens row col → ⊥) → (facts : Masks)
    → IsBase givens picture facts ↔ (facts ≡ nothing_excluded (length picture) (width_of picture))
no_givens picture is givens n facts = (
  (λ b. one_base picture is givens givens (λ row col. ((λ g. g), (λ g. g))) facts (nothing_excluded (length picture) (width_of picture)) b (full_base picture is givens n)),
  (λ e. subst (IsBase givens picture) (sym e) (full_base picture is givens n)),
)

-- ---- one given more

-- the given's own cell
given_here : (picture : Rows) → IsPicture picture → (givens more : List ℕ) (row col : ℕ) → row < length picture → col < width_of picture → PutsCell givens more row col → (facts : Masks)
    → SameShape picture facts → (k : ℕ) → Leaves (with_given picture facts row col) row col k ↔ IsOpen more picture row col k
given_here picture is givens more row col h w puts facts shape k =
    let colour = cell_at picture row col in
    let small = is.colours row col in
    let r = is.rectangular row h in
    let u = shape.each row in
    let e = at_with_cell facts row col (2 ^ colour) (omega arith) (omega arith) in
    let P : ℕ → Type 0 = λ m. IsBitSet m k ↔ IsOpen more picture row col k in
    subst P (sym e) (
      (λ s. let i = (power_has colour k).0 s in ((let l : k < 16 = omega arith in l), (λ _. i))),
      (λ o. (power_has colour k).1 (o.1 ((puts row col).1 (inr (refl, refl))))),
    )

-- any other cell
given_apart : (picture : Rows) (givens more : List ℕ) (row col : ℕ) → PutsCell givens more row col → (facts : Masks) → IsBase givens picture facts → (r c k : ℕ) → r < length picture
    → c < width_of picture → ((r ≡ row) × (c ≡ col) → ⊥) → Leaves (with_given picture facts row col) r c k ↔ IsOpen more picture r c k
given_apart picture givens more row col puts facts b r c k h w n =
    let P : ℕ → Type 0 = λ m. IsBitSet m k ↔ IsOpen more picture r c k in
    subst P (sym (off_with_cell facts row col (2 ^ cell_at picture row col) r c n)) (
      (λ s. same_open givens more picture r c k (λ g. elim ((puts r c).0 g) [ inl old ↦ old | inr p ↦ absurd (n p) ]) ((b.left r c k h w).0 s)),
      (λ o. (b.left r c k h w).1 (same_open more givens picture r c k (λ g. (puts r c).1 (inl g)) o)),
    )

one_more : (picture : Rows) → IsPicture picture → (givens more : List ℕ) (row col : ℕ) → row < length picture → col < width_of picture → PutsCell givens more row col → (facts : Masks)
    → IsBase givens picture facts → IsBase more picture (with_given picture facts row col)
one_more picture is givens more row col h w puts facts b = record {
  same_shape = shape_trans b.same_shape (shape_with_cell facts row col (2 ^ cell_at picture row col));
  left = λ r c k in_rows in_columns. elim (cases_eq r row) [
    | inr n ↦ given_apart picture givens more row col puts facts b r c k in_rows in_columns (λ p. n p.0)
    | inl e ↦ elim (cases_eq c col) [
      | inr n ↦ given_apart picture givens more row col puts facts b r c k in_rows in_columns (λ p. n p.1)
      | inl f ↦
          let P : ℕ → Type 0 = λ y. Leaves (with_given picture facts row col) y c k ↔ IsOpen more picture y c k in
          let Q : ℕ → Type 0 = λ x. Leaves (with_given picture facts row col) row x k ↔ IsOpen more picture row x k in
          subst P (sym e) (subst Q (sym f) (given_here picture is givens more row col h w puts facts b.same_shape k))
    ]
  ];
}

pub cell_by_cell : BaseIsCellByCell
cell_by_cell = record { given = given_mask; free = free_mask; one_base = one_base; none = no_givens; one_more = one_more }

-- Laws of grids of masks: their lines, one cell changed, and grids of one shape.
use Rattle.std.proofs.Common.{◌≡◌, ℕ, ◌<◌, List, [], refl, sym, ap, subst, ◌∙◌, arith, inl, inr, length, get_or, set, map, replicate, get_or-set_same, get_or-set_other}
use Rattle.std.proofs.lemmas.Bool.{cases_eq, cases_lt}
use Rattle.std.proofs.lemmas.List.{get_or_past, length-replicate, length-set, length-map, get_or-map, get_or-replicate}
use Rattle.picture.specs.declared.line_id.Axis.{Axis}
use Rattle.picture.specs.declared.line_id.Axis.TheVariants.{Across, Down}
use Rattle.picture.specs.declared.line_id.LineId.{LineId}
use Rattle.picture.specs.Rows.{width_of, row_at, cell_at, with_cell, line_along, line_of, Rows}
use Rattle.std.specs.Prelude.{IsBitSet}
use Rattle.line_facts.specs.FactSets.{nothing_excluded, SameShape, row_on, col_on}
use Rattle.std.proofs.lemmas.List.{ext_get_or}
use Rattle.picture.specs.Rows.{lines_along, HasLine}
use Rattle.picture.specs.Picture.{IsPicture}
use Rattle.line_facts.proofs.MaskLaws.{full_has}

-- what a line has at a place
pub cell_along : (axis : Axis) (at : ℕ) (rows : Rows) (i : ℕ) → get_or (line_along axis at rows) i 0 ≡ cell_at rows (row_on axis at i) (col_on axis at i)
cell_along Across at rows i = refl
cell_along Down at rows i = elim (cases_lt i (length rows)) [
  | inl l ↦ get_or-map (λ (row : List ℕ). get_or row at 0) rows i [] 0 l
  | inr l ↦
      get_or_past (map (λ (row : List ℕ). get_or row at 0) rows) i 0 (omega (arith, length-map rows (λ (row : List ℕ). get_or row at 0)))
      ∙ ap (λ (row : List ℕ). get_or row at 0) (sym (get_or_past rows i [] l))
]

pub cell_on : (rows : Rows) (line : LineId) (i : ℕ) → get_or (line_of rows line) i 0 ≡ cell_at rows (row_on line.axis line.at i) (col_on line.axis line.at i)
cell_on rows line i = cell_along line.axis line.at rows i

pub shape_with_cell : (rows : Rows) (i j x : ℕ) → SameShape rows (with_cell rows i j x)
shape_with_cell rows i j x = record {
  rows = sym (length-set rows i (set (row_at rows i) j x));
  each = λ r. elim (cases_eq r i) [
    | inl e ↦ elim (cases_lt i (length rows)) [
      | inl l ↦
          let P : ℕ → Type 0 = λ n. length (row_at rows n) ≡ length (row_at (with_cell rows i j x) n) in
          subst P (sym e) (sym (length-set (row_at rows i) j x) ∙ ap length (sym (get_or-set_same rows i (set (row_at rows i) j x) [] l)))
      | inr p ↦
          ap length (get_or_past rows r [] (omega arith))
          ∙ ap length (sym (get_or_past (set rows i (set (row_at rows i) j x)) r [] (omega (arith, length-set rows i (set (row_at rows i) j x)))))
    ]
    | inr n ↦ ap length (sym (get_or-set_other rows i r (set (row_at rows i) j x) [] n))
  ];
}

pub at_with_cell : (rows : Rows) (i j x : ℕ) → i < length rows → j < length (row_at rows i) → cell_at (with_cell rows i j x) i j ≡ x
at_with_cell rows i j x h l =
    ap (λ (row : List ℕ). get_or row j 0) (get_or-set_same rows i (set (row_at rows i) j x) [] h) ∙ get_or-set_same (row_at rows i) j x 0 l

pub off_with_cell : (rows : Rows) (i j x r c : ℕ) → ((r ≡ i) × (c ≡ j) → ⊥) → cell_at (with_cell rows i j x) r c ≡ cell_at rows r c
off_with_cell rows i j x r c n = elim (cases_eq r i) [
  | inr d ↦ ap (λ (row : List ℕ). get_or row c 0) (get_or-set_other rows i r (set (row_at rows i) j x) [] d)
  | inl e ↦ elim (cases_eq c j) [
    | inl f ↦ absurd (n (e, f))
    | inr g ↦ elim (cases_lt i (length rows)) [
      | inl l ↦
          let P : ℕ → Type 0 = λ m. cell_at (with_cell rows i j x) m c ≡ cell_at rows m c in
          subst P (sym e) (ap (λ (row : List ℕ). get_or row c 0) (get_or-set_same rows i (set (row_at rows i) j x) [] l) ∙ get_or-set_other (row_at rows i) j c x 0 g)
      | inr p ↦
          ap (λ (row : List ℕ). get_or row c 0) (get_or_past (set rows i (set (row_at rows i) j x)) r [] (omega (arith, length-set rows i (set (row_at rows i) j x))))
          ∙ ap (λ (row : List ℕ). get_or row c 0) (sym (get_or_past rows r [] (omega arith)))
    ]
  ]
]

-- nothing is excluded where every mask is full
pub all_left : (height width row col k : ℕ) → row < height → col < width → k < 16 → IsBitSet (cell_at (replicate height (replicate width 65535)) row col) k
all_left height width row col k h w l =
    let e : cell_at (replicate height (replicate width 65535)) row col ≡ 65535 =
    ap (λ (r : List ℕ). get_or r col 0) (get_or-replicate height row (replicate width 65535) [] h) ∙ get_or-replicate width col 65535 0 w in
    let P : ℕ → Type 0 = λ m. IsBitSet m k in
    subst P (sym e) (full_has k l)

-- ---- grids of one shape

length_same : (axis : Axis) (at : ℕ) (a b : List (List ℕ)) → SameShape a b → length (line_along axis at b) ≡ length (line_along axis at a)
length_same Across at a b s = sym (s.each at)
length_same Down at a b s = length-map b (λ (row : List ℕ). get_or row at 0) ∙ (sym s.rows ∙ sym (length-map a (λ (row : List ℕ). get_or row at 0)))

pub same_line_length : (a b : List (List ℕ)) (line : LineId) → SameShape a b → length (line_of b line) ≡ length (line_of a line)
same_line_length a b line s = length_same line.axis line.at a b s

has_same : (axis : Axis) (at : ℕ) (a b : List (List ℕ)) → SameShape a b → at < lines_along axis a → at < lines_along axis b
has_same Across at a b s h = let r = s.rows in omega arith
has_same Down at a b s h = let r = s.each 0 in omega arith

pub same_has_line : (a b : List (List ℕ)) (line : LineId) → SameShape a b → HasLine a line → HasLine b line
same_has_line a b line s h = has_same line.axis line.at a b s h

pub shape_refl : (a : List (List ℕ)) → SameShape a a
shape_refl a = record { rows = refl; each = λ i. refl }

pub shape_trans : {a b c : List (List ℕ)} → SameShape a b → SameShape b c → SameShape a c
shape_trans s t = record { rows = s.rows ∙ t.rows; each = λ i. s.each i ∙ t.each i }

pub shape_sym : {a b : List (List ℕ)} → SameShape a b → SameShape b a
shape_sym s = record { rows = sym s.rows; each = λ i. sym (s.each i) }

-- two lists of numbers that agree below their length
pub same_list : (a b : List ℕ) → length a ≡ length b → ((j : ℕ) → j < length b → get_or a j 0 ≡ get_or b j 0) → a ≡ b
same_list a b e h = ext_get_or 0 a b e (λ j l. h j (omega arith))

-- the facts that exclude nothing have the picture's shape
pub full_shape : (picture : Rows) → IsPicture picture → SameShape picture (nothing_excluded (length picture) (width_of picture))
full_shape picture is =
    let height = length picture in
    let row = replicate (width_of picture) 65535 in
    record {
      rows = sym (length-replicate height row);
      each = λ i. elim (cases_lt i height) [
        | inl l ↦ is.rectangular i l ∙ (sym (length-replicate (width_of picture) 65535) ∙ ap length (sym (get_or-replicate height i row [] l)))
        | inr p ↦ ap length (get_or_past picture i [] p) ∙ ap length (sym (get_or_past (replicate height row) i [] (let n = length-replicate height row in omega arith)))
      ];
    }

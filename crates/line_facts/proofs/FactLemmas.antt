-- Facts as rows of masks that lie in one flat list.
use Rattle.std.proofs.Common.{◌≡◌, ℕ, zero, suc, ◌+◌, ◌-◌, ◌*◌, ◌^◌, ◌<◌, ◌≤◌, List, [], ◌∷◌, refl, sym, ap, subst, ◌∙◌, arith, inl, inr, length, get_or, set, replicate, get_or-set_same}
use Rattle.std.proofs.Common.{get_or-set_other}
use Rattle.std.proofs.lemmas.Bool.{cases_eq, cases_lt}
use Rattle.std.proofs.lemmas.List.{get_or_past, length-set, take-replicate, drop-replicate}
use Rattle.picture.specs.Rows.{rows_of, width_of, row_at, cell_at, Rows}
use Rattle.line_facts.specs.FactSets.{AreMasks, IsFacts}
use Rattle.picture.proofs.FlatLaws.{length-rows_of, length-row, cell_at-rows_of, place_inside}

cell_below : (height width : ℕ) (masks : List ℕ) → AreMasks height width masks → (i j : ℕ) → cell_at (rows_of height width masks) i j < 2 ^ 16
cell_below height width masks is i j =
    let rows = rows_of height width masks in
    let none : 0 < 2 ^ 16 = omega arith in
    elim (cases_lt i height) [
      | inl in_rows ↦ elim (cases_lt j width) [
        | inl in_row ↦ rw (cell_at-rows_of height width masks i j in_rows in_row) (is.small (i * width + j))
        | inr past ↦ rw (get_or_past (row_at rows i) j 0 (omega (arith, length-row height width masks i is.count in_rows))) none
      ]
      | inr past ↦
          let e : row_at rows i ≡ [] = get_or_past rows i [] (omega (arith, length-rows_of height width masks)) in
          rw e none
    ]

-- what is known of rows of masks that lie in a flat list
pub record Known (height width : ℕ) (masks : List ℕ) (rows : Rows) : Type 0 where
  pub tall : length rows ≡ height
  pub wide : width_of rows ≡ width
  pub facts : IsFacts rows
  pub cell : (i j : ℕ) → i < height → j < width → cell_at rows i j ≡ get_or masks (i * width + j) 0

pub known_flat : (height width : ℕ) (masks : List ℕ) → AreMasks height width masks → Known height width masks (rows_of height width masks)
known_flat height width masks is =
    let tall = length-rows_of height width masks in
    let wide : width_of (rows_of height width masks) ≡ width = length-row height width masks 0 is.count is.has_row in
    record {
      tall = tall;
      wide = wide;
      facts = record {
        has_row = omega (arith, is.has_row);
        rows_fit = omega (arith, is.rows_fit);
        has_column = omega (arith, is.has_column);
        columns_fit = omega (arith, is.columns_fit);
        rectangular = λ i lt. length-row height width masks i is.count (omega (arith, tall, lt)) ∙ sym wide;
        masks = cell_below height width masks is;
      };
      cell = cell_at-rows_of height width masks;
    }

pub known : (height width : ℕ) (masks : List ℕ) (rows : Rows) → rows_of height width masks ≡ rows → AreMasks height width masks → Known height width masks rows
known height width masks rows e is = subst (Known height width masks) e (known_flat height width masks is)

pub are_masks_set : (height width : ℕ) (masks : List ℕ) (k x : ℕ) → AreMasks height width masks → x < 2 ^ 16 → AreMasks height width (set masks k x)
are_masks_set height width masks k x is small = record {
  has_row = is.has_row;
  rows_fit = is.rows_fit;
  has_column = is.has_column;
  columns_fit = is.columns_fit;
  count = length-set masks k x ∙ is.count;
  small = λ n. elim (cases_eq n k) [
    | inl e ↦ elim (cases_lt k (length masks)) [
      | inl lt ↦ rw (e, get_or-set_same masks k x 0 lt) small
      | inr past ↦ rw (get_or_past (set masks k x) n 0 (omega (arith, length-set masks k x, e))) (omega arith)
    ]
    | inr other ↦ rw (get_or-set_other masks k n x 0 other) (is.small n)
  ];
}

pub rows_of_one : (height width x : ℕ) → rows_of height width (replicate (height * width) x) ≡ replicate height (replicate width x)
rows_of_one zero width x = refl
rows_of_one (suc height) width x =
    let more : suc height * width ≡ width + height * width = omega arith in
    let room : width ≤ width + height * width = omega arith in
    let rest : width + height * width - width ≡ height * width = omega arith in
    rw (more, take-replicate {X = ℕ} width (width + height * width) x room, drop-replicate {X = ℕ} width (width + height * width) x, rest)
    (ap (λ (rows : Rows). replicate width x ∷ rows) (rows_of_one height width x))

pub ruleset flat = (length-rows_of, place_inside, rows_of_one)

-- Laws of rows that lie in one flat list.
use Rattle.std.proofs.Common.{◌≡◌, ℕ, zero, suc, ◌+◌, ◌*◌, ◌<◌, ◌≤◌, List, ◌∷◌, length, get_or, set, take, drop, inl, inr, arith, refl, ap, ◌∙◌}
use Rattle.std.proofs.lemmas.Bool.{cases_lt}
use Rattle.std.proofs.lemmas.List.{get_or_past, length-take, length-drop, get_or-take, get_or-drop, drop-drop, take-set-le, drop-set-lt, drop-set-add}
use Rattle.std.proofs.Math.Seq.{take-set-lt}
use Rattle.picture.specs.Rows.{rows_of, row_at, cell_at, with_cell, Rows}

pub length-rows_of : (height width : ℕ) (cells : List ℕ) → length (rows_of height width cells) ≡ height
length-rows_of zero width cells = refl
length-rows_of (suc height) width cells = ap suc (length-rows_of height width (drop width cells))

-- a row is a part of the flat list
pub row_at-rows_of : (height width : ℕ) (cells : List ℕ) (i : ℕ) → i < height → row_at (rows_of height width cells) i ≡ take width (drop (i * width) cells)
row_at-rows_of zero width cells i lt = absurd (omega (arith, lt))
row_at-rows_of (suc height) width cells zero lt = let none : 0 * width ≡ 0 = omega arith in rw none refl
row_at-rows_of (suc height) width cells (suc i) lt =
    row_at-rows_of height width (drop width cells) i (omega arith)
    ∙ ap (take width) (drop-drop (i * width) width cells ∙ ap (λ k. drop k cells) (omega arith))

pub place_inside : (height width i j : ℕ) → i < height → j < width → i * width + j < height * width
place_inside zero width i j lt in_row = absurd (omega (arith, lt))
place_inside (suc height) width zero j lt in_row = let base : 0 ≤ height * width = omega arith in omega arith
place_inside (suc height) width (suc i) j lt in_row = let h = place_inside height width i j (omega (arith, lt)) in_row in omega (arith, h)

row_inside : (height width i : ℕ) → i < height → i * width + width ≤ height * width
row_inside zero width i lt = absurd (omega (arith, lt))
row_inside (suc height) width zero lt = let base : 0 ≤ height * width = omega arith in omega arith
row_inside (suc height) width (suc i) lt = let h = row_inside height width i (omega (arith, lt)) in omega (arith, h)

pub length-row : (height width : ℕ) (cells : List ℕ) (i : ℕ) → length cells ≡ height * width → i < height → length (row_at (rows_of height width cells) i) ≡ width
length-row height width cells i count lt = grind (arith, drop, length-drop, length-take, row_at-rows_of, row_inside)

pub cell_at-rows_of : (height width : ℕ) (cells : List ℕ) (i j : ℕ) → i < height → j < width → cell_at (rows_of height width cells) i j ≡ get_or cells (i * width + j) 0
cell_at-rows_of height width cells i j lt in_row = grind (arith, drop, get_or, get_or-drop, get_or-take, row_at-rows_of)

pub rows_of-set : (height width : ℕ) (cells : List ℕ) (i j x : ℕ) → i < height → j < width → rows_of height width (set cells (i * width + j) x) ≡ with_cell (rows_of height width cells) i j x
rows_of-set zero width cells i j x lt in_row = absurd (omega (arith, lt))
rows_of-set (suc height) width cells zero j x lt in_row =
    let at : 0 * width + j ≡ j = omega arith in
    rw (at, take-set-lt width cells j x in_row, drop-set-lt width cells j x in_row) refl
rows_of-set (suc height) width cells (suc i) j x lt in_row =
    let at : suc i * width + j ≡ width + (i * width + j) = omega arith in
    let later : width ≤ width + (i * width + j) = omega arith in
    rw (at, take-set-le width cells (width + (i * width + j)) x later, drop-set-add width cells (i * width + j) x)
    (ap (λ (rows : Rows). take width cells ∷ rows) (rows_of-set height width (drop width cells) i j x (omega (arith, lt)) in_row))

-- cells cut into rows stay below what they were below
pub cell_at_below : (height width n : ℕ) (cells : List ℕ) → 0 < n → ((k : ℕ) → get_or cells k 0 < n) → (i j : ℕ) → cell_at (rows_of height width cells) i j < n
cell_at_below zero width n cells some below i j = some
cell_at_below (suc height) width n cells some below zero j = elim (cases_lt j width) [
  | inl lt ↦ rw (get_or-take width cells j 0 lt) (below j)
  | inr le ↦ rw (get_or_past (take width cells) j 0 (omega (arith, length-take width cells))) some
]
cell_at_below (suc height) width n cells some below (suc i) j = cell_at_below height width n (drop width cells) some (λ k. rw get_or-drop (below (width + k))) i j

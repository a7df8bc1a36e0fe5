-- Grids picked cell by cell, lines of grids, and pictures with the same clues on each line.
use Rattle.std.proofs.Common.{◌≡◌, ◌≢◌, ℕ, zero, suc, ◌^◌, ◌<◌, ◌≤◌, ◌⊎◌, Bool, cond, not, List, [], ◌∷◌, length, get_or, map, bit_and, refl, sym, ap, subst, ◌∙◌, arith, inl, inr, eq-eqb, ne_eqb}
use Rattle.std.specs.Prelude.{slice_index}
use Rattle.std.specs.List.{range_with_len}
use Rattle.std.proofs.lemmas.Bool.{cases_eq, cases_lt}
use Rattle.std.proofs.lemmas.List.{ext_get_or, get_or_past, get_or-map, length-map}
use Rattle.std.proofs.lemmas.List.FromFn.{get_or-map-range_with_len, length-map-range_with_len}
use Rattle.picture.specs.declared.line_id.Axis.{Axis}
use Rattle.picture.specs.declared.line_id.Axis.TheVariants.{Across, Down}
use Rattle.picture.specs.declared.line_id.LineId.{LineId}
use Rattle.picture.specs.CellSet.{HasCell}
use Rattle.picture.specs.Rows.{width_of, row_at, cell_at, lines_along, line_along, line_of, HasLine, Rows}
use Rattle.clues.specs.Clue.{clue_of}
use Rattle.clues.specs.ClueBook.{Clues, clue_at, clues_of}
use Rattle.clues.specs.Laws.{BooksAreTheirClues, CluesAreOfLines, IsAtPlace}
use Rattle.line_facts.specs.FactSets.{SameShape}
use Rattle.second_search.specs.Parts.{picked, picked_cell, picked_row}
use Rattle.trail.proofs.GridLemmas.{same_grid, row_there}

-- ---- equal or not

pub same_list : {X : Type 0} → ((x y : X) → (x ≡ y) ⊎ (x ≡ y → ⊥)) → (xs ys : List X) → (xs ≡ ys) ⊎ (xs ≡ ys → ⊥)
same_list same [] [] = inl refl
same_list same [] (y ∷ ys) = inr (λ e. absurd cc)
same_list same (x ∷ xs) [] = inr (λ e. absurd cc)
same_list same (x ∷ xs) (y ∷ ys) = elim (same x y) [
  | inr d ↦ inr (λ e. d cc)
  | inl e ↦ elim (same_list same xs ys) [ inr d ↦ inr (λ f. d cc) | inl f ↦ inl cc ]
]

-- ---- looking for a place

-- the first place below a bound that has a property, or there is none
pub first_below : (P : ℕ → Type 0) → ((i : ℕ) → P i ⊎ (P i → ⊥)) → (n : ℕ) → ((i : ℕ) × ((i < n) × (P i × ((j : ℕ) → j < i → P j → ⊥)))) ⊎ ((i : ℕ) → i < n → P i → ⊥)
first_below P by zero = inr (λ i l. absurd (omega arith))
first_below P by (suc n) = elim (first_below P by n) [
  | inl found ↦ inl (found.0, ((let l = found.1.0 in omega arith), found.1.1))
  | inr none ↦ elim (by n) [
    | inl here ↦ inl (n, (omega arith, (here, none)))
    | inr not_here ↦ inr (λ i l. elim (cases_eq i n) [
      | inl e ↦ (λ p. not_here (subst P e p))
      | inr d ↦ none i (omega arith)
    ])
  ]
]

-- a place below a bound that has a property, or there is none
pub find_below : (P : ℕ → Type 0) → ((i : ℕ) → P i ⊎ (P i → ⊥)) → (n : ℕ) → ((i : ℕ) × ((i < n) × P i)) ⊎ ((i : ℕ) → i < n → P i → ⊥)
find_below P by n = elim (first_below P by n) [
  | inl found ↦ inl (found.0, (found.1.0, found.1.1.0))
  | inr none ↦ inr none
]

abbrev pub OrNot : Type 0 → Type 0
OrNot A = A ⊎ (A → ⊥)

abbrev pub Below : (ℕ → Type 0) → ℕ → Type 0
Below P n = (i : ℕ) × ((i < n) × P i)

pub some_below : (P : ℕ → Type 0) → ((i : ℕ) → P i ⊎ (P i → ⊥)) → (n : ℕ) → OrNot (Below P n)
some_below P by n = elim (find_below P by n) [ inl found ↦ inl found | inr none ↦ inr (λ f. none f.0 f.1.0 f.1.1) ]

-- ---- shapes

-- cells outside a grid are 0
pub outside_is_0 : (a : List (List ℕ)) (row col : ℕ) → length (row_at a row) ≤ col → cell_at a row col ≡ 0
outside_is_0 a row col p = get_or_past (row_at a row) col 0 p

-- a rectangle: each row is as long as the first
abbrev pub IsRectangle : List (List ℕ) → Type 0
IsRectangle a = (i : ℕ) → i < length a → length (row_at a i) ≡ width_of a

pub rect_like : (a b : List (List ℕ)) → SameShape a b → IsRectangle a → IsRectangle b
rect_like a b s rect i l =
    let r = rect i (omega arith) in
    omega arith

-- ---- picked grids

row_of_picked : (cells : List ℕ) (one : List (List ℕ)) (other : Rows) (row : ℕ) → row < length other → row_at (picked cells one other) row ≡ picked_row cells one other row
unfolding picked
row_of_picked cells one other row l = get_or-map-range_with_len (picked_row cells one other) 0 (length other) row row [] l (omega arith)

pub shape_of_picked : (cells : List ℕ) (one : List (List ℕ)) (other : Rows) → IsRectangle other → SameShape (picked cells one other) other
unfolding picked
shape_of_picked cells one other rect =
    let count = length-map-range_with_len (picked_row cells one other) 0 (length other) in
    record {
      rows = count;
      each = λ i. elim (cases_lt i (length other)) [
        | inl l ↦ ap length (row_of_picked cells one other i l) ∙ (length-map-range_with_len (picked_cell cells one other i) 0 (width_of other) ∙ sym (rect i l))
        | inr p ↦ ap length (get_or_past (map (picked_row cells one other) (range_with_len 0 (length other))) i [] (omega arith)) ∙ sym (ap length (get_or_past other i [] p))
      ];
    }

cell_of_picked : (cells : List ℕ) (one : List (List ℕ)) (other : Rows) (row col : ℕ) → row < length other → col < width_of other
    → cell_at (picked cells one other) row col ≡ picked_cell cells one other row col
cell_of_picked cells one other row col l m =
    ap (λ (xs : List ℕ). get_or xs col 0) (row_of_picked cells one other row l) ∙ get_or-map-range_with_len (picked_cell cells one other row) 0 (width_of other) col col 0 m (omega arith)

picked_on : (cells : List ℕ) (one : List (List ℕ)) (other : Rows) (row col : ℕ) → HasCell cells row col → picked_cell cells one other row col ≡ cell_at one row col
picked_on cells one other row col h = ap (λ (b : Bool). cond (not b) (cell_at one row col) (cell_at other row col)) (ne_eqb (bit_and (slice_index cells row) (2 ^ col)) 0 h)

picked_off : (cells : List ℕ) (one : List (List ℕ)) (other : Rows) (row col : ℕ) → (HasCell cells row col → ⊥) → picked_cell cells one other row col ≡ cell_at other row col
picked_off cells one other row col h = elim (cases_eq (bit_and (slice_index cells row) (2 ^ col)) 0) [
  | inl e ↦ ap (λ (b : Bool). cond (not b) (cell_at one row col) (cell_at other row col)) (eq-eqb (bit_and (slice_index cells row) (2 ^ col)) 0 e)
  | inr d ↦ absurd (h d)
]

pub on_part : (cells : List ℕ) (one : List (List ℕ)) (other : Rows) (row col : ℕ) → row < length other → col < width_of other → HasCell cells row col
    → cell_at (picked cells one other) row col ≡ cell_at one row col
on_part cells one other row col l m h = cell_of_picked cells one other row col l m ∙ picked_on cells one other row col h

pub off_part : (cells : List ℕ) (one : List (List ℕ)) (other : Rows) (row col : ℕ) → IsRectangle other → (HasCell cells row col → ⊥) → cell_at (picked cells one other) row col ≡ cell_at other row col
off_part cells one other row col rect h =
    let shape = shape_of_picked cells one other rect in
    elim (cases_lt col (length (row_at other row))) [
      | inr p ↦ outside_is_0 (picked cells one other) row col (omega arith) ∙ sym (outside_is_0 other row col p)
      | inl m ↦
          let l = row_there other row col m in
          cell_of_picked cells one other row col l (let w = rect row l in omega arith) ∙ picked_off cells one other row col h
    ]

-- in cells of the part, a picked grid has those of the first grid, where both have one shape
pub on_cells : (cells : List ℕ) (one : List (List ℕ)) (other : Rows) (row col : ℕ) → IsRectangle other → SameShape one other → HasCell cells row col
    → cell_at (picked cells one other) row col ≡ cell_at one row col
on_cells cells one other row col rect s h =
    let shape = shape_of_picked cells one other rect in
    elim (cases_lt col (length (row_at other row))) [
      | inr p ↦ outside_is_0 (picked cells one other) row col (omega arith) ∙ sym (outside_is_0 one row col (omega arith))
      | inl m ↦ let l = row_there other row col m in on_part cells one other row col l (let w = rect row l in omega arith) h
    ]

-- a place at which two grids of one shape differ
differs_in_row : (a b : List (List ℕ)) (row : ℕ) → OrNot (Below (λ col. cell_at a row col ≢ cell_at b row col) (length (row_at b row)))
differs_in_row a b row = some_below (λ col. cell_at a row col ≢ cell_at b row col)
    (λ col. elim (cases_eq (cell_at a row col) (cell_at b row col)) [ inl e ↦ inr (λ d. d e) | inr d ↦ inl d ]) (length (row_at b row))

pub differing_cell : (a b : List (List ℕ)) → SameShape a b → (a ≡ b → ⊥) → (row : ℕ) × ((col : ℕ) × (cell_at a row col ≢ cell_at b row col))
differing_cell a b s d = elim (find_below (λ row. (col : ℕ) × ((col < length (row_at b row)) × (cell_at a row col ≢ cell_at b row col))) (differs_in_row a b) (length b)) [
  | inl found ↦ (found.0, (found.1.1.0, found.1.1.1.1))
  | inr none ↦ absurd (d (same_grid a b s (λ row col.
      elim (cases_lt col (length (row_at b row))) [
        | inr p ↦ outside_is_0 a row col (omega arith) ∙ sym (outside_is_0 b row col p)
        | inl m ↦ elim (cases_eq (cell_at a row col) (cell_at b row col)) [
          | inl e ↦ e
          | inr n ↦ absurd (none row (elim (cases_lt row (length b)) [ inl l ↦ l | inr p ↦ absurd (let zero_long = ap length (get_or_past b row [] p) in omega arith) ]) (col, (m, n)))
        ]
      ])))
]

-- ---- lines

pub same_count : (a b : List (List ℕ)) → SameShape a b → (axis : Axis) → lines_along axis a ≡ lines_along axis b
same_count a b s Across = s.rows
same_count a b s Down = s.each 0

-- lines of one length with the same cells are equal
pub same_along : (a b : List (List ℕ)) (axis : Axis) (at : ℕ) → length (line_along axis at a) ≡ length (line_along axis at b)
    → ((row col : ℕ) → IsAtPlace axis at row col → cell_at a row col ≡ cell_at b row col) → line_along axis at a ≡ line_along axis at b
same_along a b Across at e h = ext_get_or 0 (row_at a at) (row_at b at) e (λ c _. h at c refl)
same_along a b Down at e h =
    let read : List ℕ → ℕ = λ row. get_or row at 0 in
    let m = length-map a read in
    let n = length-map b read in
    ext_get_or 0 (map read a) (map read b) e (λ r l. get_or-map read a r [] 0 (omega arith) ∙ (h r at refl ∙ sym (get_or-map read b r [] 0 (omega arith))))

-- the cells of equal lines
pub cells_along : (a b : List (List ℕ)) (axis : Axis) (at row col : ℕ) → line_along axis at a ≡ line_along axis at b → IsAtPlace axis at row col → cell_at a row col ≡ cell_at b row col
cells_along a b Across at row col e on = rw on (ap (λ (xs : List ℕ). get_or xs col 0) e)
cells_along a b Down at row col e on =
    subst (λ (y : ℕ). cell_at a row y ≡ cell_at b row y) (sym on) (sym (read_down a at row) ∙ (ap (λ (xs : List ℕ). get_or xs row 0) e ∙ read_down b at row))
  where
    read_down : (a : List (List ℕ)) (at row : ℕ) → get_or (line_along Down at a) row 0 ≡ cell_at a row at
    read_down a at row = elim (cases_lt row (length a)) [
      | inl l ↦ get_or-map (λ (cells : List ℕ). get_or cells at 0) a row [] 0 l
      | inr l ↦
          get_or_past (map (λ (cells : List ℕ). get_or cells at 0) a) row 0 (omega (arith, length-map a (λ (cells : List ℕ). get_or cells at 0)))
          ∙ ap (λ (cells : List ℕ). get_or cells at 0) (sym (get_or_past a row [] l))
    ]

-- ---- clues

-- pictures of one shape whose lines have the same clues have the same clues
pub same_clues : CluesAreOfLines → BooksAreTheirClues → (a b : List (List ℕ)) → SameShape a b → ((line : LineId) → HasLine a line → clue_of (line_of a line) ≡ clue_of (line_of b line))
    → clues_of a ≡ clues_of b
same_clues of_lines books a b s h =
    books (clues_of a) (clues_of b)
    (λ axis. of_lines.sizes a axis ∙ (same_count a b s axis ∙ sym (of_lines.sizes b axis)))
    (λ line has.
    let near : HasLine a line = (let n = of_lines.sizes a line.axis in omega arith) in
    let there : HasLine b line = (let n = same_count a b s line.axis in omega arith) in
    of_lines.clues a line near ∙ (h line near ∙ sym (of_lines.clues b line there)))

-- a line of a picture whose clues are known
pub clue_known : CluesAreOfLines → (clues : Clues) (picture : Rows) (line : LineId) → clues_of picture ≡ clues → HasLine picture line → clue_of (line_of picture line) ≡ clue_at clues line
clue_known of_lines clues picture line e has = sym (of_lines.clues picture line has) ∙ ap (λ x. clue_at x line) e

-- Lists of cells: those that an edit changes, and a grid with cells of a list changed.
use Rattle.std.proofs.Common.{◌≡◌, ◌≢◌, ℕ, zero, suc, ◌+◌, ◌<◌, ◌≤◌, ◌⊎◌, inl, inr, Bool, true, false, cond, ◌==◌, List, [], ◌∷◌, ◌++◌, length, get_or, map, take, refl, sym, ap, subst, ◌∙◌, arith}
use Rattle.std.proofs.Common.{add-one}
use Rattle.std.proofs.lemmas.Bool.{cases_lt, cases_eq, eqb-false, ne_eqb, eq-eqb, cond-true, cond-false}
use Rattle.std.specs.List.{All}
use Rattle.std.proofs.lemmas.List.{append-nil, take_more, get_or-map, length-map}
use Rattle.std.proofs.lemmas.List.Elements.{All-head, All-tail, All-take, All-weaker}
use Rattle.picture.specs.Picture.{IsPicture}
use Rattle.picture.specs.Rows.{width_of, cell_at, with_cell, Rows}
use Rattle.edits.specs.declared.edit.Edit.{Edit}
use Rattle.edits.specs.Design.{IsGrid}
use Rattle.edits.specs.Edit.{colour_after, painted}
use Rattle.edits.specs.Note.{Cell, IsCellIn, repainted, joined, with_cells, changed_cell, changed_cells, changed_in_row}
use Rattle.edits.proofs.GridLemmas.{same_grid, grid_same, picture_is_grid, grid_is_grid, cell_at-grid, cell_at-with_other, cell_at-with_same, place_cases, with_cell_is_grid}

-- x is in the list
abbrev pub Has : {X : Type 0} → List X → X → Type 0
Has [] x = ⊥
Has (y ∷ ys) x = (y ≡ x) ⊎ Has ys x

pub has_left : {X : Type 0} (xs ys : List X) (x : X) → Has xs x → Has (xs ++ ys) x
has_left [] ys x h = absurd h
has_left (y ∷ xs) ys x h = elim h [ inl e ↦ inl e | inr rest ↦ inr (has_left xs ys x rest) ]

pub has_right : {X : Type 0} (xs ys : List X) (x : X) → Has ys x → Has (xs ++ ys) x
has_right [] ys x h = h
has_right (y ∷ xs) ys x h = inr (has_right xs ys x h)

pub has_either : {X : Type 0} (xs ys : List X) (x : X) → Has (xs ++ ys) x → Has xs x ⊎ Has ys x
has_either [] ys x h = inr h
has_either (y ∷ xs) ys x h =
    elim h [
      | inl e ↦ inl (inl e)
      | inr rest ↦ elim (has_either xs ys x rest) [ inl a ↦ inl (inr a) | inr b ↦ inr b ]
    ]

-- the lists of places, one after another
pub joined_none : {X : Type 0} (f : ℕ → List X) → joined f 0 ≡ []
unfolding joined
joined_none f = refl

pub joined_more : {X : Type 0} (f : ℕ → List X) (n : ℕ) → joined f (n + 1) ≡ joined f n ++ f n
unfolding joined
joined_more f n = rw add-one refl

pub joined_has : {X : Type 0} (f : ℕ → List X) (n i : ℕ) (x : X) → i < n → Has (f i) x → Has (joined f n) x
unfolding joined
joined_has f zero i x within h = absurd (omega arith)
joined_has f (suc n) i x within h =
    elim (cases_eq i n) [
      | inl e ↦ has_right (joined f n) (f n) x (rw (← e) h)
      | inr other ↦ has_left (joined f n) (f n) x (joined_has f n i x (omega arith) h)
    ]

pub joined_from : {X : Type 0} (f : ℕ → List X) (n : ℕ) (x : X) → Has (joined f n) x → (i : ℕ) × (i < n) × Has (f i) x
unfolding joined
joined_from f zero x h = absurd h
joined_from f (suc n) x h =
    elim (has_either (joined f n) (f n) x h) [
      | inl before ↦ let at = joined_from f n x before in (at.0, omega (arith, at.1), at.2)
      | inr here ↦ (n, omega arith, here)
    ]

-- places without anything add nothing
pub joined_gap : {X : Type 0} (f : ℕ → List X) (a b : ℕ) → a ≤ b → ((i : ℕ) → a ≤ i → i < b → f i ≡ []) → joined f b ≡ joined f a
unfolding joined
joined_gap f a zero le none = let same : a ≡ 0 = omega arith in rw same refl
joined_gap f a (suc b) le none =
    elim (cases_lt b a) [
      | inl above ↦ let same : a ≡ suc b = omega arith in rw same refl
      | inr below ↦
          ap (λ ys. joined f b ++ ys) (none b below (omega arith))
          ∙ (append-nil (joined f b) ∙ joined_gap f a b below (λ i low high. none i low (omega arith)))
    ]

-- after the first of the cells is changed, each cell is right, or is among the cells still to be changed
still_right : (h w : ℕ) (c : Cell) (cells : List Cell) (old new : Rows) (i j : ℕ) → IsGrid h w old → (c.0 < h) × (c.1 < w) × (cell_at new c.0 c.1 ≡ c.2)
    → (cell_at old i j ≡ cell_at new i j) ⊎ Has (c ∷ cells) (i, j, cell_at new i j) → (cell_at (with_cell old c.0 c.1 c.2) i j ≡ cell_at new i j) ⊎ Has cells (i, j, cell_at new i j)
still_right h w c cells old new i j is here was =
    elim (place_cases i j c.0 c.1) [
      | inl at ↦ inl (rw (at.0, at.1) (cell_at-with_same h w old c.0 c.1 c.2 is here.0 here.1 ∙ sym here.2))
      | inr other ↦
          elim was [
            | inl same ↦ inl (cell_at-with_other h w old c.0 c.1 c.2 i j is here.0 other ∙ same)
            | inr has ↦ elim has [ inl e ↦ absurd (other (sym (ap (λ (d : Cell). d.0) e), sym (ap (λ (d : Cell). d.1) e))) | inr rest ↦ inr rest ]
          ]
    ]

-- a grid in which the cells of a list are changed, where these are all that differ from another grid
pub with_cells_give : (h w : ℕ) (cells : List Cell) (old new : Rows) → IsGrid h w old → IsGrid h w new → ((c : Cell) → Has cells c → (c.0 < h) × (c.1 < w) × (cell_at new c.0 c.1 ≡ c.2))
    → ((i j : ℕ) → i < h → j < w → (cell_at old i j ≡ cell_at new i j) ⊎ Has cells (i, j, cell_at new i j)) → with_cells old cells ≡ new
with_cells_give h w [] old new is_old is_new right all =
    same_grid h w old new is_old is_new (λ i j in_rows in_columns. elim (all i j in_rows in_columns) [ inl same ↦ same | inr none ↦ absurd none ])
with_cells_give h w (c ∷ cells) old new is_old is_new right all =
    let here = right c (inl refl) in
    with_cells_give h w cells (with_cell old c.0 c.1 c.2) new (with_cell_is_grid h w old c.0 c.1 c.2 is_old here.0) is_new
    (λ d h. right d (inr h))
    (λ i j in_rows in_columns. still_right h w c cells old new i j is_old here (all i j in_rows in_columns))

-- the cells that an edit changes
pub has_unless : {X : Type 0} (b : Bool) (d c : X) → Has (cond b [] (d ∷ [])) c → (b ≡ false) × (d ≡ c)
has_unless true d c h = absurd h
has_unless false d c h = (refl, elim h [ inl e ↦ e | inr none ↦ absurd none ])

pub unless_has : {X : Type 0} (b : Bool) (d : X) → b ≡ false → Has (cond b [] (d ∷ [])) d
unless_has true d e = absurd (cc e)
unless_has false d e = inl refl

pub changed_from : (e : Edit) (rows : Rows) (c : Cell) → Has (changed_cells e rows) c → (c.0 < length rows) × (c.1 < width_of rows) × (cell_at rows c.0 c.1 ≡ c.2) × (colour_after e c.0 c.1 c.2 ≢ c.2)
changed_from e rows c h =
    let in_row = joined_from (changed_in_row e rows) (length rows) c h in
    let at = joined_from (changed_cell e rows in_row.0) (width_of rows) c in_row.2 in
    let i = in_row.0 in
    let j = at.0 in
    let x = cell_at rows i j in
    let is = has_unless (colour_after e i j x == x) (i, j, x) c at.2 in
    subst (λ (d : Cell). (d.0 < length rows) × (d.1 < width_of rows) × (cell_at rows d.0 d.1 ≡ d.2) × (colour_after e d.0 d.1 d.2 ≢ d.2)) is.1
    (in_row.1, at.1, refl, eqb-false (colour_after e i j x) x is.0)

pub changed_has : (e : Edit) (rows : Rows) (i j : ℕ) → i < length rows → j < width_of rows → colour_after e i j (cell_at rows i j) ≢ cell_at rows i j
    → Has (changed_cells e rows) (i, j, cell_at rows i j)
changed_has e rows i j in_rows in_columns changes =
    let x = cell_at rows i j in
    joined_has (changed_in_row e rows) (length rows) i (i, j, x) in_rows
    (joined_has (changed_cell e rows i) (width_of rows) j (i, j, x) in_columns
    (unless_has (colour_after e i j x == x) (i, j, x) (ne_eqb (colour_after e i j x) x changes)))

pub unchanged_cell : (e : Edit) (rows : Rows) (i j : ℕ) → colour_after e i j (cell_at rows i j) ≡ cell_at rows i j → changed_cell e rows i j ≡ []
unchanged_cell e rows i j same =
    cond-true (colour_after e i j (cell_at rows i j) == cell_at rows i j) [] ((i, j, cell_at rows i j) ∷ []) (eq-eqb (colour_after e i j (cell_at rows i j)) (cell_at rows i j) same)

pub changed_cell_is : (e : Edit) (rows : Rows) (i j : ℕ) → colour_after e i j (cell_at rows i j) ≢ cell_at rows i j → changed_cell e rows i j ≡ (i, j, cell_at rows i j) ∷ []
changed_cell_is e rows i j other =
    cond-false (colour_after e i j (cell_at rows i j) == cell_at rows i j) [] ((i, j, cell_at rows i j) ∷ []) (ne_eqb (colour_after e i j (cell_at rows i j)) (cell_at rows i j) other)

-- an edit that changes no cell leaves the picture, and only such an edit does
pub painted_unchanged : (e : Edit) (rows : Rows) → IsPicture rows → changed_cells e rows ≡ [] → painted e rows ≡ rows
painted_unchanged e rows is none =
    grid_same (length rows) (width_of rows) (λ i j. colour_after e i j (cell_at rows i j)) rows (picture_is_grid rows is)
    (λ i j in_rows in_columns.
    elim (cases_eq (colour_after e i j (cell_at rows i j)) (cell_at rows i j)) [
      | inl same ↦ same
      | inr other ↦ absurd (rw none at (changed_has e rows i j in_rows in_columns other))
    ])

pub unchanged_painted : (e : Edit) (rows : Rows) → painted e rows ≡ rows → changed_cells e rows ≡ []
unchanged_painted e rows same =
    joined_gap (changed_in_row e rows) 0 (length rows) (omega arith)
    (λ i _ in_rows.
    joined_gap (changed_cell e rows i) 0 (width_of rows) (omega arith)
    (λ j _ in_columns.
    unchanged_cell e rows i j
    (sym (cell_at-grid (length rows) (width_of rows) (λ i j. colour_after e i j (cell_at rows i j)) i j in_rows in_columns) ∙ ap (λ r. cell_at r i j) same))
    ∙ joined_none (changed_cell e rows i))
    ∙ joined_none (changed_in_row e rows)

pub has_map : {X Y : Type 0} (f : X → Y) (cells : List X) (c : X) → Has cells c → Has (map f cells) (f c)
has_map f [] c h = absurd h
has_map f (d ∷ cells) c h = elim h [ inl e ↦ inl (ap f e) | inr rest ↦ inr (has_map f cells c rest) ]

pub has_from_map : {X Y : Type 0} (f : X → Y) (cells : List X) (c : Y) → Has (map f cells) c → (d : X) × Has cells d × (f d ≡ c)
has_from_map f [] c h = absurd h
has_from_map f (d ∷ cells) c h =
    elim h [
      | inl e ↦ (d, inl refl, e)
      | inr rest ↦ let is = has_from_map f cells c rest in (is.0, inr is.1, is.2)
    ]

-- the changed cells painted, and given back
pub paints_cells : (e : Edit) (rows : Rows) → IsPicture rows → with_cells rows (map (repainted e) (changed_cells e rows)) ≡ painted e rows
paints_cells e rows is =
    let h = length rows in
    let w = width_of rows in
    let value : ℕ → ℕ → ℕ = λ i j. colour_after e i j (cell_at rows i j) in
    with_cells_give h w (map (repainted e) (changed_cells e rows)) rows (painted e rows) (picture_is_grid rows is) (grid_is_grid h w value)
    (λ c has.
    let of = has_from_map (repainted e) (changed_cells e rows) c has in
    let was = changed_from e rows of.0 of.1 in
    subst (λ (d : Cell). (d.0 < h) × (d.1 < w) × (cell_at (painted e rows) d.0 d.1 ≡ d.2)) of.2
    (was.0, was.1, cell_at-grid h w value of.0.0 of.0.1 was.0 was.1 ∙ ap (λ x. colour_after e of.0.0 of.0.1 x) was.2))
    (λ i j in_rows in_columns.
    let after = cell_at-grid h w value i j in_rows in_columns in
    elim (cases_eq (colour_after e i j (cell_at rows i j)) (cell_at rows i j)) [
      | inl same ↦ inl (sym (after ∙ same))
      | inr other ↦ inr (rw after (has_map (repainted e) (changed_cells e rows) (i, j, cell_at rows i j) (changed_has e rows i j in_rows in_columns other)))
    ])

pub gives_cells_back : (e : Edit) (rows : Rows) → IsPicture rows → with_cells (painted e rows) (changed_cells e rows) ≡ rows
gives_cells_back e rows is =
    let h = length rows in
    let w = width_of rows in
    let value : ℕ → ℕ → ℕ = λ i j. colour_after e i j (cell_at rows i j) in
    with_cells_give h w (changed_cells e rows) (painted e rows) rows (grid_is_grid h w value) (picture_is_grid rows is)
    (λ c has. let was = changed_from e rows c has in (was.0, was.1, was.2))
    (λ i j in_rows in_columns.
    let after = cell_at-grid h w value i j in_rows in_columns in
    elim (cases_eq (colour_after e i j (cell_at rows i j)) (cell_at rows i j)) [
      | inl same ↦ inl (after ∙ same)
      | inr other ↦ inr (changed_has e rows i j in_rows in_columns other)
    ])

-- what is true of all that a list has
has_at : {X : Type 0} (xs : List X) (k : ℕ) (d : X) → k < length xs → Has xs (get_or xs k d)
has_at [] k d within = absurd (omega arith)
has_at (x ∷ xs) zero d within = inl refl
has_at (x ∷ xs) (suc k) d within = inr (has_at xs k d (omega arith))

pub all_has : {X : Type 0} (P : X → Type 0) (xs : List X) → ((x : X) → Has xs x → P x) → All P xs
all_has P xs each = λ k d within. each (get_or xs k d) (has_at xs k d within)

-- cells changed one by one
pub with_cells-push : (rows : Rows) (cells : List Cell) (c : Cell) → with_cells rows (cells ++ c ∷ []) ≡ with_cell (with_cells rows cells) c.0 c.1 c.2
with_cells-push rows [] c = refl
with_cells-push rows (d ∷ cells) c = with_cells-push (with_cell rows d.0 d.1 d.2) cells c

pub with_cells_grid : (h w : ℕ) (rows : Rows) (cells : List Cell) → IsGrid h w rows → All (λ (c : Cell). c.0 < h) cells → IsGrid h w (with_cells rows cells)
with_cells_grid h w rows [] is inside = is
with_cells_grid h w rows (c ∷ cells) is inside = with_cells_grid h w (with_cell rows c.0 c.1 c.2) cells (with_cell_is_grid h w rows c.0 c.1 c.2 is (All-head (λ (d : Cell). d.0 < h) c cells inside))
    (All-tail (λ (d : Cell). d.0 < h) c cells inside)

pub with_cells_sizes : (rows : Rows) (cells : List Cell) → IsPicture rows → All (IsCellIn rows) cells
    → (length (with_cells rows cells) ≡ length rows) × (width_of (with_cells rows cells) ≡ width_of rows)
with_cells_sizes rows cells is inside =
    let grid = with_cells_grid (length rows) (width_of rows) rows cells (picture_is_grid rows is) (All-weaker (IsCellIn rows) (λ (c : Cell). c.0 < length rows) (λ c h. h.0) cells inside) in
    (grid.row_count, grid.row_lengths 0 is.has_row)

pub with_one_more : (rows now : Rows) (cells : List Cell) (i : ℕ) (d : Cell) → i < length cells → now ≡ with_cells rows (take i cells)
    → with_cell now (get_or cells i d).0 (get_or cells i d).1 (get_or cells i d).2 ≡ with_cells rows (take (i + 1) cells)
with_one_more rows now cells i d within same =
    rw same (sym (ap (with_cells rows) (take_more cells i d within) ∙ with_cells-push rows (take i cells) (get_or cells i d)))

pub fits_now : (rows now : Rows) (cells : List Cell) (i : ℕ) (d : Cell) → IsPicture rows → All (IsCellIn rows) cells → i < length cells → now ≡ with_cells rows (take i cells)
    → IsCellIn now (get_or cells i d)
fits_now rows now cells i d is inside within same =
    let sizes = with_cells_sizes rows (take i cells) is (All-take (IsCellIn rows) i cells inside) in
    let at : IsCellIn rows (get_or cells i d) = inside i d within in
    rw (same, sizes.0, sizes.1) at

pub mapped_fits : (e : Edit) (rows now : Rows) (cells : List Cell) (i : ℕ) (d : Cell) → IsPicture rows → All (IsCellIn rows) (map (repainted e) cells) → i < length cells
    → now ≡ with_cells rows (take i (map (repainted e) cells)) → IsCellIn now (repainted e (get_or cells i d))
mapped_fits e rows now cells i d is inside within same =
    rw (get_or-map (repainted e) cells i d d within) at (fits_now rows now (map (repainted e) cells) i d is inside (omega (arith, length-map cells (repainted e))) same)

pub with_one_painted : (e : Edit) (rows now : Rows) (cells : List Cell) (i : ℕ) (d : Cell) → i < length cells → now ≡ with_cells rows (take i (map (repainted e) cells))
    → with_cell now (get_or cells i d).0 (get_or cells i d).1 (colour_after e (get_or cells i d).0 (get_or cells i d).1 (get_or cells i d).2) ≡ with_cells rows (take (i + 1) (map (repainted e) cells))
with_one_painted e rows now cells i d within same =
    ap (λ (c : Cell). with_cell now c.0 c.1 c.2) (sym (get_or-map (repainted e) cells i d d within))
    ∙ with_one_more rows now (map (repainted e) cells) i d (omega (arith, length-map cells (repainted e))) same

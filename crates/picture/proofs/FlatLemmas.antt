-- Rows that lie in one flat list.
use Rattle.std.proofs.Common.{◌≡◌, ℕ, zero, suc, ◌+◌, ◌*◌, ◌-◌, ◌<◌, ◌≤◌, List, [], ◌∷◌, ◌++◌, length, get_or, take, drop, map, replicate, arith, refl, ap, ◌∙◌, sym, subst, Bool, eqb, IsTrue}
use Rattle.std.proofs.lemmas.List.{length-drop, take-append-drop, take-replicate, drop-replicate, length-map, get_or-map, ext_get_or}
use Rattle.std.specs.Cmp.Lexicographic.{pointwise}
use Rattle.std.proofs.lemmas.Slice.Eq.{slice_eq-Decides}
use Rattle.std.proofs.lemmas.Bool.Decides.{Decides-eqb}
use Rattle.picture.specs.declared.line_id.Axis.TheVariants.{Across, Down}
use Rattle.picture.specs.declared.line_id.LineId.{LineId}
use Rattle.picture.specs.Rows.{rows_of, width_of, row_at, cell_at, line_along, line_of, lines_along, HasLine, Rows}
use Rattle.picture.specs.Picture.{IsPicture, AreCells}
use Rattle.picture.specs.Line.{spaced}
use Rattle.picture.proofs.LineLemmas.{length-spaced, get_or-spaced}
use Rattle.picture.proofs.FlatLaws.{length-rows_of, place_inside, length-row, cell_at-rows_of, cell_at_below}

pub is_picture : (height width : ℕ) (cells : List ℕ) → AreCells height width cells → IsPicture (rows_of height width cells)
is_picture height width cells is =
    let rows = rows_of height width cells in
    let tall = length-rows_of height width cells in
    let wide : width_of rows ≡ width = length-row height width cells 0 is.count is.has_row in
    record {
      has_row = omega (arith, tall, is.has_row);
      rows_fit = omega (arith, tall, is.rows_fit);
      has_column = omega (arith, wide, is.has_column);
      columns_fit = omega (arith, wide, is.columns_fit);
      rectangular = λ i lt. length-row height width cells i is.count (omega (arith, tall, lt)) ∙ sym wide;
      colours = cell_at_below height width 16 cells (omega arith) is.colours;
    }

-- what is known of rows cut from a flat list
pub record Facts (height width : ℕ) (cells : List ℕ) (rows : Rows) : Type 0 where
  pub tall : length rows ≡ height
  pub wide : width_of rows ≡ width
  pub picture : IsPicture rows
  pub cell : (i j : ℕ) → i < height → j < width → cell_at rows i j ≡ get_or cells (i * width + j) 0

pub facts : (height width : ℕ) (cells : List ℕ) (rows : Rows) → rows_of height width cells ≡ rows → AreCells height width cells → Facts height width cells rows
facts height width cells rows e is = subst (Facts height width cells) e (record {
  tall = length-rows_of height width cells;
  wide = length-row height width cells 0 is.count is.has_row;
  picture = is_picture height width cells is;
  cell = cell_at-rows_of height width cells;
})

-- ---- lines

pub row_is_spaced : (height width : ℕ) (cells : List ℕ) (i : ℕ) → length cells ≡ height * width → i < height → spaced cells (i * width) 1 width ≡ row_at (rows_of height width cells) i
row_is_spaced height width cells i count lt =
    ext_get_or 0 _ _ (length-spaced cells (i * width) 1 width ∙ sym (length-row height width cells i count lt))
    (λ j in_row.
    let in_width : j < width = omega (arith, in_row, length-spaced cells (i * width) 1 width) in
    get_or-spaced cells (i * width) 1 width j in_width ∙ ap (λ k. get_or cells k 0) (omega arith) ∙ sym (cell_at-rows_of height width cells i j lt in_width))

pub column_is_spaced : (height width : ℕ) (cells : List ℕ) (j : ℕ) → j < width → spaced cells j width height ≡ map (λ (row : List ℕ). get_or row j 0) (rows_of height width cells)
column_is_spaced height width cells j in_row =
    ext_get_or 0 _ _ (length-spaced cells j width height ∙ sym (length-map (rows_of height width cells) (λ (row : List ℕ). get_or row j 0) ∙ length-rows_of height width cells))
    (λ i in_rows.
    let in_height : i < height = omega (arith, in_rows, length-spaced cells j width height) in
    get_or-spaced cells j width height i in_height ∙ ap (λ k. get_or cells k 0) (omega arith) ∙ sym (cell_at-rows_of height width cells i j in_height in_row)
    ∙ sym (get_or-map (λ (row : List ℕ). get_or row j 0) (rows_of height width cells) i [] 0 (omega (arith, length-rows_of height width cells))))

-- ---- all background, and equal rows

pub rows_of-replicate : (height width : ℕ) → rows_of height width (replicate (height * width) 0) ≡ replicate height (replicate width 0)
rows_of-replicate zero width = refl
rows_of-replicate (suc height) width =
    let more : suc height * width ≡ width + height * width = omega arith in
    let room : width ≤ width + height * width = omega arith in
    let rest : width + height * width - width ≡ height * width = omega arith in
    rw (more, take-replicate {X = ℕ} width (width + height * width) 0 room, drop-replicate {X = ℕ} width (width + height * width) 0, rest)
    (ap (λ (rows : Rows). replicate width 0 ∷ rows) (rows_of-replicate height width))

pub same_cells : (height width : ℕ) (a b : List ℕ) → length a ≡ height * width → length b ≡ height * width → rows_of height width a ≡ rows_of height width b → a ≡ b
same_cells zero width [] [] la lb e = refl
same_cells zero width (x ∷ a) b la lb e = absurd (omega (arith, la))
same_cells zero width [] (x ∷ b) la lb e = absurd (omega (arith, lb))
same_cells (suc height) width a b la lb e =
    let heads : take width a ≡ take width b = cc in
    let tails : rows_of height width (drop width a) ≡ rows_of height width (drop width b) = cc in
    let rest = same_cells height width (drop width a) (drop width b) (omega (arith, length-drop width a, la)) (omega (arith, length-drop width b, lb)) tails in
    sym (take-append-drop width a) ∙ ap (λ (xs : List ℕ). xs ++ drop width a) heads ∙ ap (λ (xs : List ℕ). take width b ++ xs) rest ∙ take-append-drop width b

-- ---- equal pictures

module _ (h w h' w' : ℕ) (a b : List ℕ) (rows rows' : Rows) (e : rows_of h w a ≡ rows) (e' : rows_of h' w' b ≡ rows') (is : AreCells h w a) (is' : AreCells h' w' b) where
  -- equal sizes: the cells decide
  pub same_when : h ≡ h' → w ≡ w' → (r : Bool) → r ≡ pointwise eqb a b → (IsTrue r → rows ≡ rows') × (rows ≡ rows' → IsTrue r)
  same_when p q r test = grind (arith, rows_of, same_cells, slice_eq-Decides)

  -- equal pictures have equal sizes
  pub same_sizes : rows ≡ rows' → (h ≡ h') × (w ≡ w')
  same_sizes s =
      let f = facts h w a rows e is in
      let f' = facts h' w' b rows' e' is' in
      (sym f.tall ∙ ap length s ∙ f'.tall, sym f.wide ∙ ap width_of s ∙ f'.wide)

-- a line of a picture whose rows lie in a flat list
pub row_of_picture : (height width : ℕ) (cells : List ℕ) (rows : Rows) (line : LineId) → rows_of height width cells ≡ rows → AreCells height width cells → line.axis ≡ Across → HasLine rows line
    → spaced cells (line.at * width) 1 width ≡ line_of rows line
row_of_picture height width cells rows line e is across has =
    let f = facts height width cells rows e is in
    let inside : line.at < height = omega (arith, f.tall, subst (λ axis. line.at < lines_along axis rows) across has) in
    row_is_spaced height width cells line.at is.count inside
    ∙ ap (λ grid. line_along Across line.at grid) e
    ∙ ap (λ axis. line_along axis line.at rows) (sym across)

pub column_of_picture : (height width : ℕ) (cells : List ℕ) (rows : Rows) (line : LineId) → rows_of height width cells ≡ rows → AreCells height width cells → line.axis ≡ Down → HasLine rows line
    → spaced cells line.at width height ≡ line_of rows line
column_of_picture height width cells rows line e is down has =
    let f = facts height width cells rows e is in
    let inside : line.at < width = omega (arith, f.wide, subst (λ axis. line.at < lines_along axis rows) down has) in
    column_is_spaced height width cells line.at inside
    ∙ ap (λ grid. line_along Down line.at grid) e
    ∙ ap (λ axis. line_along axis line.at rows) (sym down)

pub ruleset flat = (length-rows_of, place_inside, rows_of-replicate, is_picture)

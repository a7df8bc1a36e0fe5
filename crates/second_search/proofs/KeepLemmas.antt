-- Which lines are quiet while a search goes on: at first those that go past a part, and after a split all but the two through the
-- split cell.
use Rattle.std.proofs.Common.{◌≡◌, ℕ, ◌^◌, ◌<◌, None, Some, List, [], ◌∷◌, ◌++◌, length, get_or, map, refl, sym, ap, subst, ◌∙◌, arith, inl, inr}
use Rattle.std.specs.Prelude.{IsBitSet}
use Rattle.std.proofs.lemmas.Bool.{cases_lt}
use Rattle.std.proofs.lemmas.List.{get_or_past, length-map}
use Rattle.picture.specs.declared.line_id.Axis.{Axis}
use Rattle.picture.specs.declared.line_id.Axis.TheVariants.{Across, Down}
use Rattle.picture.specs.declared.line_id.LineId.{LineId}
use Rattle.picture.specs.CellSet.{HasCell}
use Rattle.picture.specs.LineSet.{Lines, HasName}
use Rattle.picture.specs.Picture.{IsPicture}
use Rattle.picture.specs.Rows.{width_of, row_at, cell_at, line_along, line_of, lines_along, HasLine, with_cell, Rows}
use Rattle.clues.specs.Laws.{CluesAreOfLines}
use Rattle.clues.specs.ClueBook.{Clues, clue_at, clues_along, clues_of}
use Rattle.line_facts.specs.Masks.{IsOnly, Masks}
use Rattle.line_facts.specs.FactSets.{IsClosed, IsFacts, SameShape, col_on, row_on}
use Rattle.line_facts.specs.Fits.{Fits}
use Rattle.line_facts.proofs.GridLaws.{same_has_line, same_line_length, same_list, shape_refl, shape_sym, shape_trans, cell_on, off_with_cell, shape_with_cell}
use Rattle.picture.proofs.BitLaws.{no_bit}
use Rattle.line_facts.specs.Branches.{colours_of, held}
use Rattle.fixpoint.specs.ClosedFacts.{AreClosable, EachFits, IsQuietLine, QuietOutside}
use Rattle.fixpoint.specs.LineNames.{AreLinesOf}
use Rattle.trail.specs.declared.cell.Cell.{Cell}
use Rattle.second_search.specs.declared.counting.Budget.{Budget}
use Rattle.trail.specs.Trail.{GoesOn, Trailed, place, trail_of}
use Rattle.second_search.specs.SettledFacts.{AreRowsSettled, ShowOthers}
use Rattle.second_search.specs.FixedOrder.{KeepsOutside, NamesLinesOf}
use Rattle.second_search.specs.SearchSteps.{Steps}
use Rattle.trail.specs.Through.{CanLie, NamesLinesAt, across, down}
use Rattle.second_search.specs.Through.{NamesBoth}
use Rattle.second_search.proofs.LookLemmas.{others_settled}

-- ---- sizes

pub can_close_like : (clues : Clues) (before after : ℕ) (first facts : Masks) → SameShape first facts → after ≡ before → AreClosable clues before first → AreClosable clues after facts
can_close_like clues before after first facts s e c =
    rw e (record { rows = omega arith; columns = omega arith; wide = omega arith; tall = omega arith })

-- the clues have as many lines as the facts
pub sized_lines : (clues : Clues) (longest : ℕ) (facts : Masks) (axis : Axis) → AreClosable clues longest facts → length (clues_along axis clues) ≡ lines_along axis facts
sized_lines clues longest facts Across c = let e = c.rows in omega arith
sized_lines clues longest facts Down c = let e = c.columns in omega arith

-- ---- the lines that are not named

row_has : (axis : Axis) (at i : ℕ) (cells : List ℕ) (lines : Lines) → NamesLinesOf cells lines → HasCell cells (row_on axis at i) (col_on axis at i) → HasName lines (record { axis = axis; at = at })
row_has Across at i cells lines n h = (n at i h).0
row_has Down at i cells lines n h = (n i at h).1

along_inside : (axis : Axis) (at i : ℕ) (picture : Rows) → IsPicture picture → i < length (line_along axis at picture) → HasLine picture (record { axis = axis; at = at })
    → col_on axis at i < length (row_at picture (row_on axis at i))
along_inside Across at i picture is l h = l
along_inside Down at i picture is l h =
    let m = length-map picture (λ (row : List ℕ). get_or row at 0) in
    omega arith

-- a line that is not named leaves only the picture's colours
outside_line : (cells : List ℕ) (picture : Rows) (facts : Masks) (lines : Lines) (line : LineId) → IsPicture picture → KeepsOutside cells picture facts → NamesLinesOf cells lines → HasLine facts line
    → (HasName lines line → ⊥) → (i : ℕ) → i < length (line_of facts line) → IsOnly (get_or (line_of facts line) i 0) (get_or (line_of picture line) i 0)
outside_line cells picture facts lines line is k n has not i l =
    let row = row_on line.axis line.at i in
    let col = col_on line.axis line.at i in
    let len = same_line_length picture facts line k.same_shape in
    let inside = along_inside line.axis line.at i picture is (omega arith) (same_has_line facts picture line (shape_sym k.same_shape) has) in
    let only = k.outside row col (omega arith) (λ h. not (row_has line.axis line.at i cells lines n h)) in
    subst (λ (m : ℕ). IsOnly m (get_or (line_of picture line) i 0)) (sym (cell_on facts line i)) (subst (λ (c : ℕ). IsOnly (cell_at facts row col) c) (sym (cell_on picture line i)) only)

pub quiet_outside : CluesAreOfLines → (clues : Clues) (cells : List ℕ) (picture : Rows) (facts : Masks) (lines : Lines) → IsPicture picture → clues_of picture ≡ clues
    → KeepsOutside cells picture facts → NamesLinesOf cells lines → QuietOutside clues facts lines
quiet_outside law clues cells picture facts lines is e k n line has not =
    let left = line_of facts line in
    let own = line_of picture line in
    let only = outside_line cells picture facts lines line is k n has not in
    let there = same_has_line facts picture line (shape_sym k.same_shape) has in
    let fits : Fits (clue_at clues line) left own = record {
      same_length = sym (same_line_length picture facts line k.same_shape);
      has_clue = sym (law.clues picture line there) ∙ ap (λ (c : Clues). clue_at c line) e;
      keeps = λ i l. (only i l (get_or own i 0)).1 refl;
    } in
    record {
      closed = λ i c s. elim (cases_lt i (length left)) [
        | inl l ↦ record { line = own; fits = fits; within = l; has = sym ((only i l c).0 s) }
        | inr p ↦ absurd (no_bit c (let P : ℕ → Type 0 = λ m. IsBitSet m c in subst P (get_or_past left i 0 p) s))
      ];
      fits = (own, fits);
    }

-- each row that is not named shows the picture
pub show_others : (cells : List ℕ) (picture : Rows) (facts : Masks) (lines : Lines) → IsPicture picture → KeepsOutside cells picture facts → NamesLinesOf cells lines → ShowOthers picture lines facts
show_others cells picture facts lines is k n row col out h l =
    let shape = k.same_shape in
    let here = shape.each row in
    let first = shape.each 0 in
    let wide = is.rectangular row (omega arith) in
    k.outside row col (omega arith) (λ has. out (n row col has).0)

-- ---- a cell held in closed facts

-- facts with a cell: each line but the two through it is quiet, each row above it is settled, and each row that is not named shows
-- a known picture
pub record IsQuietBut (clues : Clues) (known : Rows) (rows : Lines) (facts : Masks) (cell : Cell) : Type 0 where
  pub in_rows : cell.row < length facts
  pub in_columns : cell.col < width_of facts
  pub quiet : (lines : Lines) → NamesBoth lines cell.row cell.col → QuietOutside clues facts lines
  pub above : AreRowsSettled facts cell.row
  pub others : ShowOthers known rows facts

off_cell : (line : LineId) (lines : Lines) (row col i : ℕ) → NamesBoth lines row col → (HasName lines line → ⊥) → (row_on line.axis line.at i ≡ row) × (col_on line.axis line.at i ≡ col) → ⊥
off_cell line lines row col i both not e = by line.axis not e
  where
    by : (a : Axis) → (HasName lines (record { axis = a; at = line.at }) → ⊥) → (row_on a line.at i ≡ row) × (col_on a line.at i ≡ col) → ⊥
    by Across n e = n (let P : ℕ → Type 0 = λ x. HasName lines (across x) in subst P (sym e.0) both.0)
    by Down n e = n (let P : ℕ → Type 0 = λ x. HasName lines (down x) in subst P (sym e.1) both.1)

-- a line that does not go through a cell is as it was before the cell was held
same_line_off : (facts : Masks) (row col x : ℕ) (lines : Lines) (line : LineId) → NamesBoth lines row col → (HasName lines line → ⊥) → line_of (with_cell facts row col x) line ≡ line_of facts line
same_line_off facts row col x lines line both not =
    let held_to = with_cell facts row col x in
    same_list (line_of held_to line) (line_of facts line) (same_line_length facts held_to line (shape_with_cell facts row col x)) (λ j l.
    cell_on held_to line j
    ∙ (off_with_cell facts row col x (row_on line.axis line.at j) (col_on line.axis line.at j) (off_cell line lines row col j both not)
    ∙ sym (cell_on facts line j)))

quiet_held : (clues : Clues) (known : Rows) (rows : Lines) (settled : Masks) (row col x : ℕ) → IsClosed clues settled → EachFits clues settled → row < length settled → col < width_of settled
    → AreRowsSettled settled row → ShowOthers known rows settled → ((k : ℕ) → IsOnly (cell_at settled row col) k → ⊥) → IsQuietBut clues known rows (with_cell settled row col x) (place row col)
quiet_held clues known rows settled row col x closed fits h l above others unsettled =
    let held_to = with_cell settled row col x in
    let shape = shape_with_cell settled row col x in
    record {
      in_rows = omega arith;
      in_columns = omega arith;
      quiet = λ lines both line has not.
          let there = same_has_line held_to settled line (shape_sym shape) has in
          subst (λ (left : List ℕ). IsQuietLine (clue_at clues line) left) (sym (same_line_off settled row col x lines line both not)) (record { closed = closed line there; fits = fits line there });
      above = λ r c m w.
          let at = above r c m (omega arith) in
          (at.0, subst (λ (y : ℕ). IsOnly y at.0) (sym (off_with_cell settled row col x r c (λ e. absurd (let p = e.0 in omega arith)))) at.1);
      others = λ r c out m w.
          let at = others r c out (omega arith) (omega arith) in
          let here : r ≡ row → c ≡ col → ⊥ = λ e f.
          let P : ℕ → Type 0 = λ y. IsOnly (cell_at settled row y) (cell_at known r c) in
          unsettled (cell_at known r c) (subst P f (subst (λ (y : ℕ). IsOnly (cell_at settled y c) (cell_at known r c)) e at)) in
          subst (λ (y : ℕ). IsOnly y (cell_at known r c)) (sym (off_with_cell settled row col x r c (λ e. here e.0 e.1))) at;
    }

-- Each of some facts has the shape of the first ones, and is quiet but for the lines through its cell.
abbrev pub EachQuiet : Clues → Rows → Lines → Masks → List (List (List ℕ)) → List Cell → Type 0
EachQuiet clues known rows first [] cells = Unit {0}
EachQuiet clues known rows first (facts ∷ others) [] = ⊥
EachQuiet clues known rows first (facts ∷ others) (cell ∷ cells) = (SameShape first facts × IsQuietBut clues known rows facts cell) × EachQuiet clues known rows first others cells

each_held : (clues : Clues) (known : Rows) (rows : Lines) (first settled : Masks) (row col : ℕ) (others : List Masks) (cells : List Cell) → SameShape first settled → IsClosed clues settled
    → EachFits clues settled → row < length settled → col < width_of settled → AreRowsSettled settled row → ShowOthers known rows settled → ((k : ℕ) → IsOnly (cell_at settled row col) k → ⊥)
    → EachQuiet clues known rows first others cells → (ks : List ℕ) → EachQuiet clues known rows first (held settled row col ks ++ others) (map (λ (k : ℕ). place row col) ks ++ cells)
each_held clues known rows first settled row col others cells s c f h l a b u o [] = o
each_held clues known rows first settled row col others cells s c f h l a b u o (k ∷ ks) = (
  (shape_trans s (shape_with_cell settled row col (2 ^ k)), quiet_held clues known rows settled row col (2 ^ k) c f h l a b u),
  each_held clues known rows first settled row col others cells s c f h l a b u o ks,
)

-- ---- on to the next facts

-- the facts have the shape of the first ones, the named lines are theirs, each other line is quiet, and each row above `top` is
-- settled
pub record IsReady (clues : Clues) (known : Rows) (rows : Lines) (first facts : Masks) (lines : Lines) (top : ℕ) : Type 0 where
  pub same_shape : SameShape first facts
  pub are_lines : AreLinesOf facts lines
  pub quiet : QuietOutside clues facts lines
  pub above : AreRowsSettled facts top
  pub others : ShowOthers known rows facts

pub ready_first : (clues : Clues) (known : Rows) (rows : Lines) (first : Masks) (lines : Lines) (s : Trailed) → s ≡ trail_of first [] [] → AreLinesOf first lines → QuietOutside clues first lines
    → ShowOthers known rows first → IsReady clues known rows first s.at_hand lines 0 × EachQuiet clues known rows first s.behind s.cells
ready_first clues known rows first lines s e of quiet others =
    rw e (record { same_shape = shape_refl first; are_lines = of; quiet = quiet; above = λ r c l w. absurd (omega arith); others = others }, tt)

pub quiet_at : (clues : Clues) (known : Rows) (rows : Lines) (first : Masks) (s t : Trailed) (cell : Cell) → EachQuiet clues known rows first s.behind s.cells → GoesOn s t (Some cell)
    → (SameShape first t.at_hand × IsQuietBut clues known rows t.at_hand cell) × EachQuiet clues known rows first t.behind t.cells
quiet_at clues known rows first s t cell q on =
    subst (λ (x : List Cell). EachQuiet clues known rows first (t.at_hand ∷ t.behind) x) on.1 (subst (λ (x : List (List (List ℕ))). EachQuiet clues known rows first x s.cells) on.0 q)

-- the two lines through a cell of facts are named
pub both_named : (first facts : Masks) (cell : Cell) (lines : Lines) → IsFacts first → SameShape first facts → cell.row < length facts → cell.col < width_of facts → NamesLinesAt lines cell
    → NamesBoth lines cell.row cell.col
both_named first facts cell lines is s h l names =
    let rows = is.rows_fit in
    let columns = is.columns_fit in
    let is_there : CanLie cell = (omega arith, omega arith) in
    ((names (across cell.row)).1 (is_there, inl refl), (names (down cell.col)).1 (is_there, inr refl))

pub ready_at : (clues : Clues) (known : Rows) (rows : Lines) (first facts : Masks) (cell : Cell) (lines : Lines) → IsFacts first → SameShape first facts → IsQuietBut clues known rows facts cell
    → NamesLinesAt lines cell → IsReady clues known rows first facts lines cell.row
ready_at clues known rows first facts cell lines is s q names = record {
  same_shape = s;
  are_lines = λ line has. elim ((names line).0 has).1 [
    | inl a ↦ let P : LineId → Type 0 = λ x. HasLine facts x in subst P (sym a) q.in_rows
    | inr d ↦ let P : LineId → Type 0 = λ x. HasLine facts x in subst P (sym d) q.in_columns
  ];
  quiet = q.quiet lines (both_named first facts cell lines is s q.in_rows q.in_columns names);
  above = q.above;
  others = q.others;
}

-- where the search goes on after a look, nothing changed, or branches of closed facts wait now
pub quiet_goes : (clues : Clues) (known : Rows) (first : Masks) (rows : Lines) (s t : Trailed) (before after : Budget) → SameShape first s.at_hand → ShowOthers known rows s.at_hand
    → EachQuiet clues known rows first s.behind s.cells → Steps clues known s t before after None → EachQuiet clues known rows first t.behind t.cells
quiet_goes clues known first rows s t before after shape others q (inl h) = rw h.1.0 q
quiet_goes clues known first rows s t before after shape others q (inr h) =
    let to = h.0.comes.0 in
    let at = h.0.comes.1.is in
    let cell = h.0.cell in
    let quiet = others_settled clues known s.at_hand h.0.settled rows to.least.holds to.fits others in
    rw h.0.new_is (each_held clues known rows first h.0.settled cell.row cell.col s.behind s.cells (shape_trans shape to.least.holds.same_shape) to.least.closed to.fits at.in_rows at.in_columns
    (λ r c l w. h.0.comes.1.before r c w (inl l)) quiet at.unsettled q (colours_of (cell_at h.0.settled cell.row cell.col)))

-- Edits that leave a document as it is.
use Rattle.std.proofs.Common.{◌≡◌, ◌≢◌, ℕ, ◌+◌, ◌<◌, inl, inr, Bool, true, false, if◌then◌else◌, ◌||◌, not, Option, Some, None, is_some, option_map, List, [], ◌∷◌, length, get_or, set, map, refl, sym}
use Rattle.std.proofs.Common.{ap, ◌∙◌, arith, slice_get, IsTrue, ◌↔◌}
use Rattle.std.specs.Bool.{MatchBool}
use Rattle.std.specs.List.{swap, list_any}
use Rattle.std.proofs.lemmas.Bool.{cases_eq}
use Rattle.std.proofs.lemmas.List.{ext_get_or, length-map, get_or-map, set-get_or, get_or-set_same}
use Rattle.std.proofs.lemmas.List.Edits.{swapped_from_swap}
use Rattle.std.proofs.lemmas.Option.{get_or_from_slice_get}
use Rattle.picture.specs.declared.line_id.Axis.{Axis}
use Rattle.picture.specs.declared.line_id.Axis.TheVariants.{Across, Down}
use Rattle.picture.specs.declared.rgb.Rgb.{Rgb}
use Rattle.picture.specs.Palette.{place_of, rgb_eq, with_triple}
use Rattle.picture.specs.Picture.{IsPicture}
use Rattle.picture.specs.Rows.{cell_at, width_of, with_cell, lines_along, lines_swapped, Rows}
use Rattle.clues.proofs.EditedPictures.{swap-same}
use Rattle.edits.specs.declared.edit.Edit.{Edit}
use Rattle.edits.specs.Design.{Design, design, IsGrid, IsDesign}
use Rattle.edits.specs.Edit.{painted}
use Rattle.edits.specs.Fault.{same_design}
use Rattle.edits.specs.Note.{changed_cells, cells_along, place_on}
use Rattle.edits.specs.Areas.{AreAlike, SameAt}
use Rattle.edits.proofs.GridLemmas.{picture_is_grid, cell_at-with_same}
use Rattle.edits.proofs.CellLemmas.{painted_unchanged, unchanged_painted}
use Rattle.edits.proofs.LineLemmas.{size_along}
use Rattle.edits.proofs.RevertLemmas.{with_cell_same, size_of_lines}
use Rattle.edits.proofs.FaultLemmas.{same_when, other_when, rgb_decides}

-- a colour has a number where it is among the colours
numbered : (place : Option ℕ) (rest : Bool) → is_some place ≡ rest → is_some (option_map (λ k. k + 1) place) ≡ rest
numbered None rest e = e
numbered (Some k) rest e = e

first_or_later : (b : Bool) (place : Option ℕ) (rest : Bool) → is_some place ≡ rest → is_some (if b then Some 0 else option_map (λ k. k + 1) place) ≡ (b || rest)
first_or_later true place rest e = refl
first_or_later false place rest e = numbered place rest e

pub place_is_some : (rgb : Rgb) (triples : List Rgb) → is_some (place_of rgb triples) ≡ list_any (rgb_eq rgb) triples
place_is_some rgb [] = refl
place_is_some rgb (t ∷ triples) = first_or_later (rgb_eq rgb t) (place_of rgb triples) (list_any (rgb_eq rgb) triples) (place_is_some rgb triples)

-- paints
-- a test of what leaves a document as it is, and only that
idle_when : (b : Bool) (P : Type 0) (after d : Design) → MatchBool b P (P → ⊥) → (P → after ≡ d) → (after ≡ d → P) → b ≡ same_design after d
idle_when true P after d is to from = sym (same_when after d (to is))
idle_when false P after d is to from = sym (other_when after d (λ same. is (from same)))

pub paint_idle : (d : Design) (e : Edit) (b : Bool) → IsPicture d.rows → MatchBool b (changed_cells e d.rows ≢ []) (changed_cells e d.rows ≡ [])
    → not b ≡ same_design (design d.colours (painted e d.rows) d.marks) d
paint_idle d e true is some = sym (other_when _ d (λ same. some (unchanged_painted e d.rows (ap (λ (x : Design). x.rows) same))))
paint_idle d e false is none = sym (same_when _ d (ap (λ r. design d.colours r d.marks) (painted_unchanged e d.rows is none)))

-- lines exchanged
pub alike_swapped : (axis : Axis) (first second h w : ℕ) (rows : Rows) → IsGrid h w rows → 0 < h → first < size_along axis h w → second < size_along axis h w
    → ((k : ℕ) → k < cells_along axis rows → SameAt axis first second rows k) → lines_swapped axis first second rows ≡ rows
alike_swapped Across first second h w rows is some f s alike =
    swap-same rows first second [] (omega (arith, is.row_count)) (omega (arith, is.row_count))
    (ext_get_or 0 (get_or rows first []) (get_or rows second []) (is.row_lengths first f ∙ sym (is.row_lengths second s))
    (λ k within. alike k (omega (arith, is.row_lengths first f, is.row_lengths 0 some))))
alike_swapped Down first second h w rows is some f s alike =
    ext_get_or [] (map (λ row. swap row first second) rows) rows (length-map rows (λ row. swap row first second))
    (λ k within.
    let in_rows : k < length rows = omega (arith, length-map rows (λ row. swap row first second)) in
    let wide = is.row_lengths k (omega (arith, is.row_count)) in
    get_or-map (λ row. swap row first second) rows k [] [] in_rows
    ∙ swap-same (get_or rows k []) first second 0 (omega (arith, wide)) (omega (arith, wide)) (alike k in_rows))

swapped_cell : (axis : Axis) (first second h w : ℕ) (rows : Rows) (k : ℕ) → IsGrid h w rows → 0 < h → first < size_along axis h w → second < size_along axis h w → k < cells_along axis rows
    → cell_at (lines_swapped axis first second rows) (place_on axis first k).0 (place_on axis first k).1 ≡ cell_at rows (place_on axis second k).0 (place_on axis second k).1
swapped_cell Across first second h w rows k is some f s within =
    ap (λ row. get_or row k 0) (swapped_from_swap rows (swap rows first second) first second [] (omega (arith, is.row_count)) (omega (arith, is.row_count)) refl).0
swapped_cell Down first second h w rows k is some f s within =
    let wide = is.row_lengths k (omega (arith, is.row_count)) in
    ap (λ row. get_or row first 0) (get_or-map (λ row. swap row first second) rows k [] [] within)
    ∙ (swapped_from_swap (get_or rows k []) (swap (get_or rows k []) first second) first second 0 (omega (arith, wide)) (omega (arith, wide)) refl).0

pub swapped_alike : (axis : Axis) (first second h w : ℕ) (rows : Rows) → IsGrid h w rows → 0 < h → first < size_along axis h w → second < size_along axis h w
    → lines_swapped axis first second rows ≡ rows → (k : ℕ) → k < cells_along axis rows → SameAt axis first second rows k
swapped_alike axis first second h w rows is some f s same k within = grind (arith, cell_at, place_on, swapped_cell)

cells_along-same : (axis : Axis) (a b : List (List ℕ)) (h w : ℕ) → IsGrid h w a → IsGrid h w b → 0 < h → cells_along axis a ≡ cells_along axis b
cells_along-same Across a b h w is_a is_b some = is_a.row_lengths 0 some ∙ sym (is_b.row_lengths 0 some)
cells_along-same Down a b h w is_a is_b some = is_a.row_count ∙ sym is_b.row_count

pub swap_idle : (d : Design) (axis : Axis) (first second : ℕ) (b : Bool) → IsDesign d → first < lines_along axis d.rows → second < lines_along axis d.rows → MatchBool b (AreAlike axis first second d)
    (AreAlike axis first second d → ⊥) → b ≡ same_design (design d.colours (lines_swapped axis first second d.rows) (lines_swapped axis first second d.marks)) d
swap_idle d axis first second b is f s alike =
    let h = length d.rows in
    let w = width_of d.rows in
    let grid = picture_is_grid d.rows is.is_picture in
    let f' : first < size_along axis h w = rw (← size_of_lines axis d.rows) f in
    let s' : second < size_along axis h w = rw (← size_of_lines axis d.rows) s in
    let long = cells_along-same axis d.rows d.marks h w grid is.marks_fit is.is_picture.has_row in
    idle_when b (AreAlike axis first second d) _ d alike
    (λ is_alike.
    ap (λ r. design d.colours r (lines_swapped axis first second d.marks)) (alike_swapped axis first second h w d.rows grid is.is_picture.has_row f' s' (λ k within. (is_alike k within).0))
    ∙ ap (λ m. design d.colours d.rows m) (alike_swapped axis first second h w d.marks is.marks_fit is.is_picture.has_row f' s' (λ k within. (is_alike k (rw long within)).1)))
    (λ same k within. (
      swapped_alike axis first second h w d.rows grid is.is_picture.has_row f' s' (ap (λ (x : Design). x.rows) same) k within,
      swapped_alike axis first second h w d.marks is.marks_fit is.is_picture.has_row f' s' (ap (λ (x : Design). x.marks) same) k (rw (← long) within),
    ))

match_from : (b c : Bool) (P : Type 0) → b ≡ c → (c ≡ true → P) × (P → c ≡ true) → MatchBool b P (P → ⊥)
match_from true c P e decides = decides.0 (sym e)
match_from false c P e decides = λ p. absurd (cc (e, decides.1 p))

pub set_idle : (d : Design) (k : ℕ) (rgb old : Rgb) (b : Bool) → k < length d.colours.triples → slice_get d.colours.triples k ≡ Some old → b ≡ rgb_eq old rgb
    → b ≡ same_design (design (with_triple d.colours k rgb) d.rows d.marks) d
set_idle d k rgb old b within at is =
    let stands = get_or_from_slice_get d.colours.triples k old old at in
    idle_when b (old ≡ rgb) _ d (match_from b (rgb_eq old rgb) (old ≡ rgb) is (rgb_decides old rgb))
    (λ same. ap (λ t. design (record { maxval = d.colours.maxval; triples = t }) d.rows d.marks)
    (ap (λ x. set d.colours.triples k x) (sym same ∙ sym stands) ∙ set-get_or d.colours.triples k old))
    (λ same. sym stands ∙ (ap (λ (x : Design). get_or x.colours.triples k old) (sym same) ∙ get_or-set_same d.colours.triples k rgb old within))

-- givens
pub mark_idle : (d : Design) (i j x : ℕ) (b : Bool) → IsDesign d → i < length d.rows → j < width_of d.rows → MatchBool b (cell_at d.marks i j ≡ x) (cell_at d.marks i j ≢ x)
    → b ≡ same_design (design d.colours d.rows (with_cell d.marks i j x)) d
mark_idle d i j x b is in_rows in_columns marked =
    idle_when b (cell_at d.marks i j ≡ x) _ d marked
    (λ here. ap (λ m. design d.colours d.rows m) (ap (λ y. with_cell d.marks i j y) (sym here) ∙ with_cell_same d.marks i j))
    (λ same. ap (λ (y : Design). cell_at y.marks i j) (sym same) ∙ cell_at-with_same (length d.rows) (width_of d.rows) d.marks i j x is.marks_fit in_rows in_columns)

pub pin_idle : (d : Design) (i j : ℕ) (b : Bool) → IsDesign d → i < length d.rows → j < width_of d.rows → IsTrue b ↔ (cell_at d.marks i j ≡ 1)
    → b ≡ same_design (design d.colours d.rows (with_cell d.marks i j 1)) d
pin_idle d i j true is in_rows in_columns given = mark_idle d i j 1 true is in_rows in_columns (given.0 refl)
pin_idle d i j false is in_rows in_columns given = mark_idle d i j 1 false is in_rows in_columns (λ one. absurd (cc (given.1 one)))

pub unpin_idle : (d : Design) (i j : ℕ) (b : Bool) → IsDesign d → i < length d.rows → j < width_of d.rows → IsTrue b ↔ (cell_at d.marks i j ≡ 1)
    → not b ≡ same_design (design d.colours d.rows (with_cell d.marks i j 0)) d
unpin_idle d i j true is in_rows in_columns given = mark_idle d i j 0 false is in_rows in_columns (λ none. absurd (omega (arith, none, given.0 refl)))
unpin_idle d i j false is in_rows in_columns given =
    mark_idle d i j 0 true is in_rows in_columns
    (elim (cases_eq (cell_at d.marks i j) 1) [ inl one ↦ absurd (cc (given.1 one)) | inr other ↦ omega (arith, is.are_marks i j) ])

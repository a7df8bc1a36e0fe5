-- The laws of clue books and of what an edit changes.
use Rattle.std.proofs.Common.{◌≡◌, ℕ, zero, suc, ◌<◌, ◌≤◌, inl, inr, Option, Some, None, List, [], ◌∷◌, ◌++◌, length, get_or, set, map, take, drop, replicate, refl, sym, ap, ◌∙◌, arith}
use Rattle.std.specs.List.{insert, remove}
use Rattle.std.proofs.lemmas.Bool.{cases_lt, cases_eq}
use Rattle.std.proofs.lemmas.List.{ext_get_or, get_or-map, get_or-set_other, get_or-set_same, length-set, map-set, set-get_or, set_past, take-set, drop-set-lt}
use Rattle.std.proofs.lemmas.List.Edits.{length-insert}
use Rattle.picture.specs.declared.line_id.Axis.{Axis}
use Rattle.picture.specs.declared.line_id.Axis.TheVariants.{Across, Down}
use Rattle.picture.specs.declared.line_id.LineId.{LineId}
use Rattle.picture.specs.Picture.{IsPicture}
use Rattle.picture.specs.Rows.{lines_along, row_at, width_of, with_cell, with_line, without_line, Rows}
use Rattle.clues.specs.ClueBook.{Clues, HasClue, clue_at, clues_along}
use Rattle.clues.specs.Change.{AreMoves, Changes, IsTouched, Moves, back, image_of, line_at, lines_after, lines_before, origin_of, places_along}
use Rattle.clues.specs.Laws.{BooksAreTheirClues, CluesAreOfLines, ImagesAreLines, InsertedLinesAgree, IsAtPlace, MovesGoBack, UntouchedCluesStand}
use Rattle.clues.proofs.BookLaws.{clue_at-clues_of, length_along-clues_of}
use Rattle.clues.proofs.MovedLines.{can_refresh, clues_stand, new_place-among, origin_of-image}
use Rattle.clues.proofs.RefreshedClues.{no_origin_touched}
use Rattle.clues.proofs.ChangedLines.{image_of-origin, image_of-parts}
use Rattle.clues.proofs.TouchedLines.{origin_within}

pub of_lines : CluesAreOfLines
of_lines = record { sizes = λ picture axis. length_along-clues_of axis picture; clues = clue_at-clues_of }

pub standing : UntouchedCluesStand
standing = record { can_refresh = can_refresh; stand = clues_stand }

-- both axes of a clue book
same_along : (axis : Axis) (one other : Clues) → length (clues_along axis one) ≡ length (clues_along axis other) → ((line : LineId) → HasClue one line → clue_at one line ≡ clue_at other line)
    → clues_along axis one ≡ clues_along axis other
same_along axis one other size same = ext_get_or [] (clues_along axis one) (clues_along axis other) size (λ at h. same (line_at axis at) h)

pub same_books : BooksAreTheirClues
same_books one other sizes same =
    let rows = same_along Across one other (sizes Across) same in
    let columns = same_along Down one other (sizes Down) same in
    λ i. record { rows = rows i; columns = columns i }

-- images
image_inside : (moves : Moves) → AreMoves moves → (line to : LineId) → line.at < lines_before line.axis moves → image_of moves line ≡ Some to → to.at < lines_after to.axis moves
image_inside moves are line to within e =
    let parts = image_of-parts moves line to e in
    new_place-among (places_along to.axis moves) (lines_before to.axis moves) line.at to.at (are.among to.axis) (rw (← parts.0) within) parts.1

untouched_from : (change : Changes) → AreMoves change.moves → (line : LineId) (from : Option LineId) → origin_of change.moves line ≡ from → line.at < lines_after line.axis change.moves
    → (IsTouched change line → ⊥) → (from : LineId) × (from.at < lines_before from.axis change.moves) × (image_of change.moves from ≡ Some line)
untouched_from change are line None e within untouched = absurd (untouched (no_origin_touched change line e))
untouched_from change are line (Some from) e within untouched = (from, origin_within change.moves line from are within e, image_of-origin change.moves line from e)

pub images : ImagesAreLines
images = record {
  one_to_one = λ moves one other to first second. cc (origin_of-image moves one to first, origin_of-image moves other to second);
  same_axis = λ moves line to e. sym (image_of-parts moves line to e).0;
  inside = image_inside;
  untouched = λ change are line within untouched. untouched_from change are line (origin_of change.moves line) refl within untouched;
}

-- moving back
back-origin : (moves : Moves) (axis : Axis) (at : ℕ) → image_of (back moves) (line_at axis at) ≡ origin_of moves (line_at axis at)
back-origin moves Across at = refl
back-origin moves Down at = refl

pub going_back : MovesGoBack
going_back = record {
  back_to_line = λ moves line to e. back-origin moves to.axis to.at ∙ origin_of-image moves line to e;
  back_from_line = λ moves line to e. image_of-origin moves to line (sym (back-origin moves to.axis to.at) ∙ e);
}

-- a line inserted and deleted again
pub remove-insert : {X : Type 0} (xs : List X) (i : ℕ) (y : X) → i ≤ length xs → remove (insert xs i y) i ≡ xs
remove-insert [] zero y within = refl
remove-insert (x ∷ xs) zero y within = refl
remove-insert [] (suc i) y within = absurd (omega (arith, within))
remove-insert (x ∷ xs) (suc i) y within = ap (λ zs. x ∷ zs) (remove-insert xs i y (omega (arith, within)))

each_again : (width at : ℕ) (rows : Rows) → ((i : ℕ) → i < length rows → length (get_or rows i []) ≡ width) → at ≤ width → map (λ row. remove row at) (map (λ row. insert row at 0) rows) ≡ rows
each_again width at [] wide within = refl
each_again width at (row ∷ rows) wide within =
    let first = wide 0 (omega arith) in
    ap (λ r. r ∷ map (λ row. remove row at) (map (λ row. insert row at 0) rows)) (remove-insert row at 0 (omega (arith, first)))
    ∙ ap (λ rest. row ∷ rest) (each_again width at rows (λ i h. wide (suc i) (omega (arith, h))) within)

deleted_again : (axis : Axis) (at : ℕ) (picture : Rows) → IsPicture picture → at ≤ lines_along axis picture → without_line axis at (with_line axis at picture) ≡ picture
deleted_again Across at picture is within = remove-insert picture at (replicate (width_of picture) 0) within
deleted_again Down at picture is within = each_again (width_of picture) at picture is.rectangular within

inserted_there : (axis : Axis) (at : ℕ) (picture : Rows) → IsPicture picture → at ≤ lines_along axis picture → at < lines_along axis (with_line axis at picture)
inserted_there Across at picture is within = omega (arith, length-insert picture at (replicate (width_of picture) 0) within)
inserted_there Down at picture is within =
    let first = get_or-map (λ row. insert row at 0) picture 0 [] [] is.has_row in
    omega (arith, ap length first, length-insert (get_or picture 0 []) at 0 within)

-- a cell of the line that is set
remove-set : {X : Type 0} (xs : List X) (i : ℕ) (y : X) → remove (set xs i y) i ≡ remove xs i
remove-set xs i y = ap (λ front. front ++ drop (suc i) (set xs i y)) (take-set xs i y) ∙ ap (λ rest. take i xs ++ rest) (drop-set-lt (suc i) xs i y (omega arith))

map-set_same : (f : List ℕ → List ℕ) (rows : Rows) (i : ℕ) (row : List ℕ) → f row ≡ f (get_or rows i []) → map f (set rows i row) ≡ map f rows
map-set_same f rows i row same =
    elim (cases_lt i (length rows)) [
      | inr past ↦ ap (map f) (set_past rows i row past)
      | inl within ↦
          map-set f rows i row
          ∙ (ap (λ r. set (map f rows) i r) (same ∙ sym (get_or-map f rows i [] [] within)) ∙ set-get_or (map f rows) i [])
    ]

still_off : (axis : Axis) (at : ℕ) (picture : Rows) (row column colour : ℕ) → IsAtPlace axis at row column → without_line axis at (with_cell picture row column colour) ≡ without_line axis at picture
still_off Across at picture row column colour on = rw (← on) (remove-set picture row (set (row_at picture row) column colour))
still_off Down at picture row column colour on = rw (← on) (map-set_same (λ r. remove r column) picture row (set (row_at picture row) column colour) (remove-set (row_at picture row) column colour))

width_of-with_cell : (picture : Rows) (row column colour : ℕ) → 0 < length picture → width_of (with_cell picture row column colour) ≡ width_of picture
width_of-with_cell picture row column colour some =
    elim (cases_eq 0 row) [
      | inr other ↦ ap length (get_or-set_other picture row 0 (set (row_at picture row) column colour) [] other)
      | inl first ↦
          rw (← first) (ap length (get_or-set_same picture 0 (set (row_at picture 0) column colour) [] some) ∙ length-set (row_at picture 0) column colour)
    ]

lines_along-with_cell : (axis : Axis) (picture : Rows) (row column colour : ℕ) → 0 < length picture → lines_along axis (with_cell picture row column colour) ≡ lines_along axis picture
lines_along-with_cell Across picture row column colour some = length-set picture row (set (row_at picture row) column colour)
lines_along-with_cell Down picture row column colour some = width_of-with_cell picture row column colour some

pub insertions : InsertedLinesAgree
insertions = record {
  inserted = λ picture line is within. record {
    has_line = inserted_there line.axis line.at picture is within;
    off_line = deleted_again line.axis line.at picture is within;
  };
  cell_set = λ old new line row column colour is on agrees. record {
    has_line = rw (lines_along-with_cell line.axis new row column colour is.has_row) agrees.has_line;
    off_line = still_off line.axis line.at new row column colour on ∙ agrees.off_line;
  };
}

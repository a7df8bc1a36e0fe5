-- A line inserted with cells, and a line deleted: which lines of the new picture are old ones.
use Rattle.std.proofs.Common.{◌≡◌, ℕ, ◌+◌, ◌<◌, inl, inr, Some, [], length, get_or, refl, sym, ap, ◌∙◌, arith}
use Rattle.std.proofs.lemmas.List.{length-map, get_or-map}
use Rattle.std.proofs.lemmas.List.Edits.{length-remove}
use Rattle.picture.specs.declared.line_id.Axis.{Axis}
use Rattle.picture.specs.declared.line_id.Axis.TheVariants.{Across, Down}
use Rattle.picture.specs.LineSet.{no_names}
use Rattle.picture.specs.Picture.{IsPicture}
use Rattle.picture.specs.Rows.{line_along, lines_along, without_line, Rows}
use Rattle.clues.specs.declared.places.Places.TheVariants.{Inserted, Deleted}
use Rattle.clues.specs.Places.{new_place, IsNewAt}
use Rattle.clues.specs.Change.{AgreesOff, AreMoves, Changes, Follows, HasSize, HaveSizes, IsChangeOf, IsOldLine, IsTouched, line_at, lines_after, lines_before, moved_along}
use Rattle.picture.specs.CrossingLines.{crossing}
use Rattle.clues.proofs.MovedLines.{old_place-new_place}
use Rattle.clues.proofs.ChangedLines.{only_changed, touches_changed}
use Rattle.clues.proofs.EditedPictures.{deletes, edited, edited_picture, first_row, image_of-along, lines_before-along, moved_line, origin}

-- how many lines there are with and without the line
count_off : (axis : Axis) (at : ℕ) (old new : Rows) → IsPicture new → at < lines_along axis new → edited_picture axis (Deleted at) new ≡ old → lines_along axis old + 1 ≡ lines_along axis new
count_off Across at old new is within off = rw (← off) (length-remove new at within)
count_off Down at old new is within off = rw (← off) (ap (λ row. length row + 1) (get_or-map (edited (Deleted at) 0) new 0 [] [] is.has_row) ∙ length-remove (get_or new 0 []) at within)

crossing_count : (axis : Axis) (at : ℕ) (old new : Rows) → IsPicture old → IsPicture new → at < lines_along axis new → edited_picture axis (Deleted at) new ≡ old
    → lines_along (crossing axis) old ≡ lines_along (crossing axis) new
crossing_count Across at old new old_is new_is within off =
    let one_more = count_off Across at old new new_is within off in
    rw (← off) (first_row (Deleted at) new new_is within (omega (arith, one_more, old_is.has_row)))
crossing_count Down at old new old_is new_is within off = rw (← off) (length-map new (edited (Deleted at) 0))

sizes_after : (axis : Axis) (at height width : ℕ) (old new : Rows) → HasSize height width old → IsPicture new → at < lines_along axis new → edited_picture axis (Deleted at) new ≡ old → (along : Axis)
    → lines_along along new ≡ lines_after along (moved_along axis (Inserted at) height width)
sizes_after Across at height width old new has is within off Across = omega (arith, count_off Across at old new is within off, has.row_count)
sizes_after Across at height width old new has is within off Down = sym (crossing_count Across at old new has.is_picture is within off) ∙ has.column_count
sizes_after Down at height width old new has is within off Across = sym (crossing_count Down at old new has.is_picture is within off) ∙ has.row_count
sizes_after Down at height width old new has is within off Down = omega (arith, count_off Down at old new is within off, has.column_count)

-- the other lines along the axis
other_line : (axis : Axis) (at to height width : ℕ) (old new : Rows) → HasSize height width old → IsPicture new → at < lines_along axis new → edited_picture axis (Deleted at) new ≡ old
    → to < lines_along axis new → (IsNewAt (Inserted at) to → ⊥) → IsOldLine (moved_along axis (Inserted at) height width) old new (line_at axis to)
other_line axis at to height width old new has is within off inside not_new =
    let one_more = count_off axis at old new is within off in
    let from = origin (Inserted at) (lines_along axis old) to (omega (arith, one_more)) (omega (arith, one_more)) not_new in
    let back : new_place (Deleted at) to ≡ Some from.0 = old_place-new_place (Inserted at) from.0 to from.2 in
    let same = moved_line axis (Deleted at) new to from.0 is within inside back in
    (line_at axis from.0, from.1, image_of-along axis (Inserted at) height width from.0 to from.2, sym same ∙ ap (line_along axis from.0) off)

untouched_line : (axis along : Axis) (at to height width : ℕ) (old new : Rows) → HasSize height width old → IsPicture new → at < lines_along axis new → edited_picture axis (Deleted at) new ≡ old
    → to < lines_along along new → (IsTouched (record { moves = moved_along axis (Inserted at) height width; marked = no_names }) (line_at along to) → ⊥)
    → IsOldLine (moved_along axis (Inserted at) height width) old new (line_at along to)
untouched_line Across Across at to height width old new has is within off inside untouched = other_line Across at to height width old new has is within off inside (λ n. untouched (inl n))
untouched_line Across Down at to height width old new has is within off inside untouched = absurd (untouched (inr (inl tt)))
untouched_line Down Across at to height width old new has is within off inside untouched = absurd (untouched (inr (inl tt)))
untouched_line Down Down at to height width old new has is within off inside untouched = other_line Down at to height width old new has is within off inside (λ n. untouched (inl n))

inserted_line : (axis : Axis) (at height width : ℕ) (old new : Rows) → AreMoves (moved_along axis (Inserted at) height width) → HasSize height width old → IsPicture new → at < lines_along axis new
    → edited_picture axis (Deleted at) new ≡ old → IsChangeOf (record { moves = moved_along axis (Inserted at) height width; marked = no_names }) old new
inserted_line axis at height width old new are has is within off =
    let moves = moved_along axis (Inserted at) height width in
    let after = sizes_after axis at height width old new has is within off in
    let sizes : HaveSizes moves old new = record { before = lines_before-along axis (Inserted at) height width old has; after = after } in
    record {
      sizes = sizes;
      follows = record { sizes = after; untouched = λ line inside untouched. untouched_line axis line.axis at line.at height width old new has is within off inside untouched };
      touched = touches_changed moves are old new has.is_picture is sizes;
    }

without_is_edited : (axis : Axis) (at : ℕ) (picture : Rows) → without_line axis at picture ≡ edited_picture axis (Deleted at) picture
without_is_edited Across at picture = refl
without_is_edited Down at picture = refl

-- the changes of lines
pub inserts_agreeing : (change : Changes) (axis : Axis) (at height width : ℕ) → change ≡ record { moves = moved_along axis (Inserted at) height width; marked = no_names } → AreMoves change.moves
    → (old new : Rows) → HasSize height width old → IsPicture new → AgreesOff (line_at axis at) old new → IsChangeOf change old new
inserts_agreeing change axis at height width is moves old new has new_is agrees =
    rw is (inserted_line axis at height width old new (rw is at moves) has new_is agrees.has_line (sym (without_is_edited axis at new) ∙ agrees.off_line))

pub deletes_exact : (change : Changes) (axis : Axis) (at height width : ℕ) → change ≡ record { moves = moved_along axis (Deleted at) height width; marked = no_names } → AreMoves change.moves
    → (picture : Rows) → HasSize height width picture → IsPicture (without_line axis at picture) → IsChangeOf change picture (without_line axis at picture)
deletes_exact change axis at height width is moves picture has new_is =
    let new = without_line axis at picture in
    let follows : Follows change picture new = deletes change axis at height width is moves picture has in
    let before : (along : Axis) → lines_along along picture ≡ lines_before along change.moves = rw is (lines_before-along axis (Deleted at) height width picture has) in
    let sizes : HaveSizes change.moves picture new = record { before = before; after = follows.sizes } in
    record {
      sizes = sizes;
      follows = follows;
      touched = only_changed change (moved_along axis (Deleted at) height width) is moves picture new has.is_picture new_is sizes;
    }

pub ruleset inserting = (inserts_agreeing, deletes_exact)

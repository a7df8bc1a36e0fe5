-- Lines of a new picture that are not images of old lines with the same cells, and those that are.
use Rattle.std.proofs.Common.{◌≡◌, ◌≢◌, ℕ, ◌^◌, ◌<◌, ◌⊎◌, inl, inr, Option, Some, None, option_map, length, get_or, refl, sym, ap, subst, ◌∙◌, arith, IsBitSet}
use Rattle.std.specs.Int.Bits.{and_zero_l}
use Rattle.std.proofs.lemmas.Bool.Decides.{nat_tests}
use Rattle.std.proofs.lemmas.List.{length-map}
use Rattle.picture.specs.declared.line_id.Axis.{Axis}
use Rattle.picture.specs.declared.line_id.Axis.TheVariants.{Across, Down}
use Rattle.picture.specs.declared.line_id.LineId.{LineId}
use Rattle.picture.specs.LineSet.{mask_along, no_names}
use Rattle.picture.specs.Picture.{IsPicture}
use Rattle.picture.specs.Rows.{HasLine, line_along, line_of, lines_along, Rows}
use Rattle.clues.specs.declared.places.Places.{Places}
use Rattle.clues.specs.declared.places.Places.TheVariants.{Kept, Inserted, Deleted, Swapped}
use Rattle.clues.specs.Places.{new_place, old_place, reversed, count_after, AreAmong, IsNewAt, ChangesLength}
use Rattle.clues.specs.Change.{AreMoves, Changes, FollowsCells, HasSize, HaveSizes, IsOldLine, Moves, TouchesChanged, image_of, line_at, lines_after, lines_before, origin_of, places_along, still}
use Rattle.picture.specs.CrossingLines.{crossing}
use Rattle.clues.proofs.MovedLines.{old_place-new_place, origin_of-image}

-- how long a line is
pub length-line_along : (axis : Axis) (at : ℕ) (picture : Rows) → IsPicture picture → at < lines_along axis picture → length (line_along axis at picture) ≡ lines_along (crossing axis) picture
length-line_along Across at picture is within = is.rectangular at within
length-line_along Down at picture is within = length-map picture (λ row. get_or row at 0)

-- the image of a line is along the same axis, at its new place
parts_from_place : (moves : Moves) (from line : LineId) (to : Option ℕ) → new_place (places_along from.axis moves) from.at ≡ to → option_map (line_at from.axis) to ≡ Some line
    → (from.axis ≡ line.axis) × (new_place (places_along line.axis moves) from.at ≡ Some line.at)
parts_from_place moves from line None place e = absurd (cc e)
parts_from_place moves from line (Some to) place e =
    let is : line_at from.axis to ≡ line = cc e in
    subst (λ (l : LineId). (from.axis ≡ l.axis) × (new_place (places_along l.axis moves) from.at ≡ Some l.at)) is (refl, place)

pub image_of-parts : (moves : Moves) (from line : LineId) → image_of moves from ≡ Some line → (from.axis ≡ line.axis) × (new_place (places_along line.axis moves) from.at ≡ Some line.at)
image_of-parts moves from line e = parts_from_place moves from line (new_place (places_along from.axis moves) from.at) refl e

-- what moves back twice moves as before
reversed-reversed : (places : Places) (at : ℕ) → new_place (reversed (reversed places)) at ≡ new_place places at
reversed-reversed Kept at = refl
reversed-reversed (Inserted place) at = refl
reversed-reversed (Deleted place) at = refl
reversed-reversed (Swapped first second) at = refl

pub new_place-old_place : (places : Places) (at from : ℕ) → old_place places at ≡ Some from → new_place places from ≡ Some at
new_place-old_place places at from e = sym (reversed-reversed places from) ∙ old_place-new_place (reversed places) at from e

image_from_place : (moves : Moves) (line from : LineId) (at : Option ℕ) → old_place (places_along line.axis moves) line.at ≡ at → option_map (line_at line.axis) at ≡ Some from
    → image_of moves from ≡ Some line
image_from_place moves line from None place e = absurd (cc e)
image_from_place moves line from (Some at) place e =
    let is : line_at line.axis at ≡ from = cc e in
    rw (← is) (ap (option_map (line_at line.axis)) (new_place-old_place (places_along line.axis moves) line.at at place))

pub image_of-origin : (moves : Moves) (line from : LineId) → origin_of moves line ≡ Some from → image_of moves from ≡ Some line
image_of-origin moves line from e = image_from_place moves line from (old_place (places_along line.axis moves) line.at) refl e

-- an inserted line is not an image, and a line whose length changes has other cells
new_has_no_origin : (places : Places) (from at : ℕ) → IsNewAt places at → new_place places from ≡ Some at → ⊥
new_has_no_origin Kept from at n e = n
new_has_no_origin (Inserted place) from at n e = grind (arith, nat_tests)
new_has_no_origin (Deleted place) from at n e = n
new_has_no_origin (Swapped first second) from at n e = n

other_length : (places : Places) (count : ℕ) → AreAmong places count → ChangesLength places → count_after places count ≢ count
other_length Kept count among changes = absurd changes
other_length (Inserted place) count among changes = λ e. omega (arith, e)
other_length (Deleted place) count among changes = λ e. omega (arith, e)
other_length (Swapped first second) count among changes = absurd changes

pub moved_is_changed : (moves : Moves) (old new : Rows) (line : LineId) → AreMoves moves → IsPicture old → IsPicture new → HaveSizes moves old new → HasLine new line
    → IsNewAt (places_along line.axis moves) line.at ⊎ ChangesLength (places_along (crossing line.axis) moves) → IsOldLine moves old new line → ⊥
moved_is_changed moves old new line are old_is new_is sizes has moved is =
    let parts = image_of-parts moves is.0 line is.2 in
    elim moved [
      | inl n ↦ new_has_no_origin (places_along line.axis moves) is.0.at line.at n parts.1
      | inr changes ↦
          let after : length (line_of new line) ≡ lines_after (crossing line.axis) moves = length-line_along line.axis line.at new new_is has ∙ sizes.after (crossing line.axis) in
          let before : length (line_of old is.0) ≡ lines_before (crossing line.axis) moves =
          length-line_along is.0.axis is.0.at old old_is is.1
          ∙ (sizes.before (crossing is.0.axis) ∙ ap (λ axis. lines_before (crossing axis) moves) parts.0) in
          other_length (places_along (crossing line.axis) moves) (lines_before (crossing line.axis) moves) (are.among (crossing line.axis)) changes (sym after ∙ (ap length is.3 ∙ before))
    ]

-- no line is marked at first
pub no_name : (axis : Axis) (at : ℕ) → IsBitSet (mask_along axis no_names) at → ⊥
no_name Across at is = is (and_zero_l (2 ^ at))
no_name Down at is = is (and_zero_l (2 ^ at))

pub touches_changed : (moves : Moves) → AreMoves moves → (old new : Rows) → IsPicture old → IsPicture new → HaveSizes moves old new
    → TouchesChanged (record { moves = moves; marked = no_names }) old new
touches_changed moves are old new old_is new_is sizes line has touched is =
    elim touched [
      | inl n ↦ moved_is_changed moves old new line are old_is new_is sizes has (inl n) is
      | inr more ↦
          elim more [
            | inl changes ↦ moved_is_changed moves old new line are old_is new_is sizes has (inr changes) is
            | inr marked ↦ no_name line.axis line.at marked
          ]
    ]

pub only_changed : (change : Changes) (moves : Moves) → change ≡ record { moves = moves; marked = no_names } → AreMoves change.moves → (old new : Rows) → IsPicture old → IsPicture new
    → HaveSizes change.moves old new → TouchesChanged change old new
only_changed change moves is are old new old_is new_is sizes = rw is (touches_changed moves (rw is at are) old new old_is new_is (rw is at sizes))

-- where no line moves
image_of-still : (height width : ℕ) (axis : Axis) (at : ℕ) → image_of (still height width) (line_at axis at) ≡ Some (line_at axis at)
image_of-still height width Across at = refl
image_of-still height width Down at = refl

still_before : (height width : ℕ) (old : Rows) → HasSize height width old → (axis : Axis) → lines_along axis old ≡ lines_before axis (still height width)
still_before height width old has Across = has.row_count
still_before height width old has Down = has.column_count

still_after : (height width : ℕ) (new : Rows) → HasSize height width new → (axis : Axis) → lines_along axis new ≡ lines_after axis (still height width)
still_after height width new has Across = has.row_count
still_after height width new has Down = has.column_count

same_line : (height width : ℕ) (old new : Rows) → HaveSizes (still height width) old new → (axis : Axis) (at : ℕ) → at < lines_along axis new → at < lines_along axis old
same_line height width old new sizes Across at has = omega (arith, sizes.before Across, sizes.after Across)
same_line height width old new sizes Down at has = omega (arith, sizes.before Down, sizes.after Down)

follows_still : (height width : ℕ) (old new : Rows) → HasSize height width old → HasSize height width new → FollowsCells (still height width) old new
follows_still height width old new of_old of_new =
    let sizes : HaveSizes (still height width) old new = record { before = still_before height width old of_old; after = still_after height width new of_new } in
    record {
      sizes = sizes;
      same = λ line has same. (line, same_line height width old new sizes line.axis line.at has, image_of-still height width line.axis line.at, same);
      only = λ line has is.
          let from : is.0 ≡ line = cc (origin_of-image (still height width) is.0 line is.2, origin_of-image (still height width) line line (image_of-still height width line.axis line.at)) in
          is.3 ∙ ap (line_of old) from;
    }

pub follows_cells : (change : Changes) (height width : ℕ) → change.moves ≡ still height width → (old new : Rows) → HasSize height width old → HasSize height width new
    → FollowsCells change.moves old new
follows_cells change height width is old new of_old of_new = rw is (follows_still height width old new of_old of_new)

pub ruleset changed = (only_changed, follows_cells)

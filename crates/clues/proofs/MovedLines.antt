-- Lines that an edit moves: their places before and after.
use Rattle.std.proofs.Common.{◌≡◌, ℕ, ◌<◌, Option, Some, None, arith, option_map, refl, sym, ap, ◌∙◌}
use Rattle.std.proofs.lemmas.Bool.Decides.{nat_tests}
use Rattle.clues.specs.declared.places.Places.{Places}
use Rattle.clues.specs.declared.places.Places.TheVariants.{Kept, Inserted, Deleted, Swapped}
use Rattle.picture.specs.declared.line_id.LineId.{LineId}
use Rattle.picture.specs.Rows.{HasLine, Rows}
use Rattle.clues.specs.Clue.{clue_of}
use Rattle.clues.specs.ClueBook.{clue_at, clues_of}
use Rattle.clues.specs.Change.{CanRefresh, Changes, Follows, KeepsClues, Moves, image_of, line_at, origin_of, places_along}
use Rattle.clues.specs.Places.{new_place, old_place, count_after, AreAmong}
use Rattle.clues.proofs.BookLaws.{clue_at-clues_of, has_clue-clues_of, length_along-clues_of}

-- a line that is still there came from its old place
pub old_place-new_place : (places : Places) (at to : ℕ) → new_place places at ≡ Some to → old_place places to ≡ Some at
old_place-new_place Kept at to e = grind arith
old_place-new_place (Inserted place) at to e = grind (arith, nat_tests)
old_place-new_place (Deleted place) at to e = grind (arith, nat_tests)
old_place-new_place (Swapped first second) at to e = grind (arith, nat_tests)

-- the new place of a line is among the new lines
pub new_place-among : (places : Places) (count at to : ℕ) → AreAmong places count → at < count → new_place places at ≡ Some to → to < count_after places count
new_place-among Kept count at to among within e = grind arith
new_place-among (Inserted place) count at to among within e = grind (arith, nat_tests)
new_place-among (Deleted place) count at to among within e = grind (arith, nat_tests)
new_place-among (Swapped first second) count at to among within e = grind (arith, nat_tests)

-- the origin of an image is its old line
origin_from_place : (moves : Moves) (from line : LineId) (to : Option ℕ) → new_place (places_along from.axis moves) from.at ≡ to → option_map (line_at from.axis) to ≡ Some line
    → origin_of moves line ≡ Some from
origin_from_place moves from line None place e = absurd (cc e)
origin_from_place moves from line (Some to) place e =
    let is : line_at from.axis to ≡ line = cc e in
    rw (← is) (ap (option_map (line_at from.axis)) (old_place-new_place (places_along from.axis moves) from.at to place))

pub origin_of-image : (moves : Moves) (from line : LineId) → image_of moves from ≡ Some line → origin_of moves line ≡ Some from
origin_of-image moves from line e = origin_from_place moves from line (new_place (places_along from.axis moves) from.at) refl e

-- where untouched lines have the cells of the lines that they were, the clues of those lines are there and right
pub can_refresh : (change : Changes) (old new : Rows) → Follows change old new → CanRefresh (clues_of old) new change
can_refresh change old new follows = record {
  sizes = follows.sizes;
  untouched = λ line has untouched.
      let from = follows.untouched line has untouched in
      (from.0, has_clue-clues_of old from.0 from.1, from.2);
}

pub clues_stand : (change : Changes) (old new : Rows) → Follows change old new → KeepsClues change (clues_of old) (clues_of new)
clues_stand change old new follows = λ line has untouched from image.
    let is_line : HasLine new line = omega (arith, length_along-clues_of line.axis new) in
    let is = follows.untouched line is_line untouched in
    let same : is.0 ≡ from = cc (origin_of-image change.moves is.0 line is.2, origin_of-image change.moves from line image) in
    clue_at-clues_of new line is_line ∙ (ap clue_of is.3 ∙ (sym (clue_at-clues_of old is.0 is.1) ∙ ap (clue_at (clues_of old)) same))

pub ruleset moving = (old_place-new_place, new_place-among)

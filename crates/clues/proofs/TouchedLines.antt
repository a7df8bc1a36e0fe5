-- Lines that are touched, one after another.
use Rattle.std.proofs.Common.{◌≡◌, ℕ, ◌<◌, inl, inr, Some, arith}
use Rattle.std.proofs.lemmas.Bool.Decides.{nat_tests}
use Rattle.picture.specs.Rows.{Rows}
use Rattle.picture.specs.declared.line_id.LineId.{LineId}
use Rattle.picture.specs.LineSet.{Lines, PutsName}
use Rattle.clues.specs.declared.places.Places.{Places}
use Rattle.clues.specs.declared.places.Places.TheVariants.{Kept, Inserted, Deleted, Swapped}
use Rattle.clues.specs.Places.{old_place, count_after, AreAmong}
use Rattle.clues.specs.Change.{AreMoves, Follows, Moves, lines_after, lines_before, origin_of, places_along}
use Rattle.clues.proofs.MovedLines.{old_place-new_place, origin_of-image}
use Rattle.clues.proofs.ChangedLines.{image_of-origin, image_of-parts}

-- the old place of a line is among the old lines
pub old_place-among : (places : Places) (count at from : ℕ) → AreAmong places count → at < count_after places count → old_place places at ≡ Some from → from < count
old_place-among Kept count at from among within e = grind arith
old_place-among (Inserted place) count at from among within e = grind (arith, nat_tests)
old_place-among (Deleted place) count at from among within e = grind (arith, nat_tests)
old_place-among (Swapped first second) count at from among within e = grind (arith, nat_tests)

pub origin_within : (moves : Moves) (line from : LineId) → AreMoves moves → line.at < lines_after line.axis moves → origin_of moves line ≡ Some from → from.at < lines_before from.axis moves
origin_within moves line from are within e =
    let parts = image_of-parts moves from line (image_of-origin moves line from e) in
    let back = old_place-new_place (places_along line.axis moves) from.at line.at parts.1 in
    rw parts.0 (old_place-among (places_along line.axis moves) (lines_before line.axis moves) line.at from.at (are.among line.axis) within back)

-- more lines are touched
pub follows_more : (moves : Moves) (marked more : Lines) (line : LineId) → PutsName marked more line → (old new : Rows) → Follows (record { moves = moves; marked = marked }) old new
    → Follows (record { moves = moves; marked = more }) old new
follows_more moves marked more line puts old new follows = record {
  sizes = follows.sizes;
  untouched = λ other has untouched.
      follows.untouched other has
      (λ t. untouched (elim t [ inl n ↦ inl n | inr rest ↦ elim rest [ inl c ↦ inr (inl c) | inr m ↦ inr (inr ((puts other).1 (inl m))) ] ]));
}

pub ruleset touching = (origin_within, image_of-origin, origin_of-image)

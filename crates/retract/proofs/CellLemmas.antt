-- Cells that a change moves: along a line that has an image, each place that stays is one cell of the new picture.
use Rattle.std.proofs.Common.{◌≡◌, ℕ, ◌<◌, Some, List, length, refl, ap, subst, ◌∙◌}
use Rattle.picture.specs.declared.line_id.Axis.{Axis}
use Rattle.picture.specs.declared.line_id.Axis.TheVariants.{Across, Down}
use Rattle.picture.specs.declared.line_id.LineId.{LineId}
use Rattle.picture.proofs.LineSetLaws.{same_name}
use Rattle.clues.specs.Change.{Moves, Stays, image_of, line_at}
use Rattle.clues.proofs.LawLemmas.{images}
use Rattle.line_facts.specs.FactSets.{row_on, col_on}
use Rattle.justify.specs.declared.premise.Premise.{Premise}
use Rattle.justify.specs.declared.step.Step.{Step}
use Rattle.justify.specs.Premises.{Mentions, Says}
use Rattle.justify.specs.Steps.{step_at}
use Rattle.justify.specs.Book.{IsDrawnBefore}
use Rattle.retract.specs.StandingSteps.{StayInPlace}

-- the cell at a row and a column has gone to another row and column
pub record IsMovedCell (moves : Moves) (row col to_row to_col : ℕ) : Type 0 where
  pub row_moves : image_of moves (line_at Across row) ≡ Some (line_at Across to_row)
  pub col_moves : image_of moves (line_at Down col) ≡ Some (line_at Down to_col)

pub one_cell : (moves : Moves) (row col other_row other_col to_row to_col : ℕ) → IsMovedCell moves row col to_row to_col → IsMovedCell moves other_row other_col to_row to_col
    → (row ≡ other_row) × (col ≡ other_col)
one_cell moves row col other_row other_col to_row to_col one other =
    let same_row = images.one_to_one moves (line_at Across row) (line_at Across other_row) (line_at Across to_row) one.row_moves other.row_moves in
    let same_col = images.one_to_one moves (line_at Down col) (line_at Down other_col) (line_at Down to_col) one.col_moves other.col_moves in
    (ap (λ (l : LineId). l.at) same_row, ap (λ (l : LineId). l.at) same_col)

moved_along : (moves : Moves) (axis : Axis) (at to i : ℕ) → image_of moves (line_at axis at) ≡ Some (line_at axis to) → Stays moves axis i
    → IsMovedCell moves (row_on axis at i) (col_on axis at i) (row_on axis to i) (col_on axis to i)
moved_along moves Across at to i image stays = record { row_moves = image; col_moves = stays }
moved_along moves Down at to i image stays = record { row_moves = stays; col_moves = image }

pub moved_cell : (moves : Moves) (from to : LineId) (i : ℕ) → image_of moves from ≡ Some to → Stays moves from.axis i
    → IsMovedCell moves (row_on from.axis from.at i) (col_on from.axis from.at i) (row_on to.axis to.at i) (col_on to.axis to.at i)
moved_cell moves from to i image stays =
    let axis = images.same_axis moves from to image in
    rw axis (moved_along moves from.axis from.at to.at i (image ∙ ap Some (same_name to (line_at from.axis to.at) axis refl)) stays)

-- what is said is mentioned
pub mentioned : (premises : List Premise) (i k : ℕ) → Says premises i k → Mentions premises i
mentioned premises i k says = record { which = says.which; within = says.within; here = says.here }

-- a step of the new book is an old one that was moved
pub record CameFrom (moves : Moves) (old new : Step) : Type 0 where
  pub image : image_of moves old.line ≡ Some new.line
  pub premises : new.premises ≡ old.premises
  pub drawn : new.drawn ≡ old.drawn
  pub drawn_stay : StayInPlace moves old.line.axis old.drawn

-- each of the steps came from one of the first n steps
abbrev pub CameBefore : Moves → List Step → ℕ → List Step → Type 0
CameBefore moves steps n kept = (m : ℕ) → m < length kept → (from : ℕ) × (from < n) × CameFrom moves (step_at steps from) (step_at kept m)

-- an exclusion that a moved step draws was drawn at the old cell
pub record WasDrawn (moves : Moves) (steps : List Step) (n row col k : ℕ) : Type 0 where
  pub old_row : ℕ
  pub old_col : ℕ
  pub cell : IsMovedCell moves old_row old_col row col
  pub drawn : IsDrawnBefore steps n old_row old_col k

pub was_drawn : (moves : Moves) (steps kept : List Step) (n row col k : ℕ) → CameBefore moves steps n kept → IsDrawnBefore kept (length kept) row col k → WasDrawn moves steps n row col k
was_drawn moves steps kept n row col k came is =
    let from = came is.which is.before in
    let old = step_at steps from.0 in
    let new = step_at kept is.which in
    let place = is.draws.place in
    let says : Says old.drawn place k = subst (λ ps. Says ps place k) from.2.drawn is.draws.says in
    let cell = moved_cell moves old.line new.line place from.2.image (from.2.drawn_stay place (mentioned old.drawn place k says)) in
    record {
      old_row = row_on old.line.axis old.line.at place;
      old_col = col_on old.line.axis old.line.at place;
      cell = rw (is.draws.in_row, is.draws.in_column) cell;
      drawn = record { which = from.0; before = from.1; draws = record { place = place; in_row = refl; in_column = refl; says = says } };
    }

-- A step that stands can be added to what was kept, and stays forced and trimmed.
use Rattle.std.proofs.Common.{◌≡◌, ℕ, ◌+◌, ◌<◌, inl, inr, Some, List, [], ◌∷◌, ◌++◌, length, length-append, get_or, refl, sym, ap, subst, ◌∙◌, arith}
use Rattle.std.proofs.lemmas.Bool.{cases_lt}
use Rattle.std.proofs.lemmas.List.{get_or_default, get_or_push, length-map}
use Rattle.std.proofs.Math.ListN.{get_or-append}
use Rattle.line_facts.specs.Masks.{Masks}
use Rattle.picture.specs.declared.line_id.Axis.{Axis}
use Rattle.picture.specs.declared.line_id.Axis.TheVariants.{Across, Down}
use Rattle.picture.specs.declared.line_id.LineId.{LineId}
use Rattle.picture.specs.Rows.{HasLine, line_along, line_of, lines_along}
use Rattle.clues.specs.Change.{AreMoves, Moves, image_of, lines_after, lines_before}
use Rattle.picture.specs.CrossingLines.{crossing}
use Rattle.clues.specs.ClueBook.{Clues, clue_at}
use Rattle.clues.proofs.LawLemmas.{images}
use Rattle.line_facts.specs.FactSets.{IsFacts, row_on, col_on}
use Rattle.justify.specs.declared.step.Step.{Step}
use Rattle.justify.specs.Premises.{Mentions, Says}
use Rattle.justify.specs.Steps.{IsForcedStep, IsTrimmed, step_at}
use Rattle.justify.specs.Book.{Account, CanFollow, IsAccount, IsDerivation, IsDrawnBefore, IsKnownBefore}
use Rattle.retract.specs.StandingSteps.{HaveBooks, KeepsLength, Stands, moved}
use Rattle.retract.proofs.CellLemmas.{CameBefore, CameFrom, mentioned, moved_cell, one_cell, was_drawn}

-- how long the lines of facts are
length-line_along : (axis : Axis) (at : ℕ) (facts : Masks) → IsFacts facts → at < lines_along axis facts → length (line_along axis at facts) ≡ lines_along (crossing axis) facts
length-line_along Across at facts is within = is.rectangular at within
length-line_along Down at facts is within = length-map facts (λ row. get_or row at 0)

-- a derivation has the sizes before
pub old_sizes : (moves : Moves) (old new : Clues) (book : Account) → IsDerivation old book → HaveBooks moves old new → (axis : Axis) → lines_along axis book.base ≡ lines_before axis moves
old_sizes moves old new book derivation books Across = derivation.rows ∙ books.before Across
old_sizes moves old new book derivation books Down = derivation.columns ∙ books.before Down

module _ (moves : Moves) (old new : Clues) (book : Account) (base : Masks) (kept : List Step) (n : ℕ) (to : LineId) (Known : ℕ → ℕ → ℕ → Type 0) (are : AreMoves moves) (is : IsAccount book)
    (derivation : IsDerivation old book) (books : HaveBooks moves old new) (base_facts : IsFacts base) (new_sizes : (axis : Axis) → lines_along axis base ≡ lines_after axis moves)
    (within : n < length book.steps) (stands : Stands moves old new Known (step_at book.steps n) to) where
  abbrev step : Step
  step = step_at book.steps n

  follow : CanFollow book.base book.steps n step
  follow = is.follows n within

  sizes : (axis : Axis) → lines_along axis book.base ≡ lines_before axis moves
  sizes = old_sizes moves old new book derivation books

  pub has_line : HasLine base to
  has_line =
      let inside : step.line.at < lines_before step.line.axis moves = rw (sizes step.line.axis) at follow.has_line in
      rw (new_sizes to.axis) (images.inside moves are step.line to inside stands.image)

  pub same_length : length (line_of base to) ≡ length (line_of book.base step.line)
  same_length =
      length-line_along to.axis to.at base base_facts has_line
      ∙ (new_sizes (crossing to.axis)
      ∙ (ap (λ axis. lines_after (crossing axis) moves) (images.same_axis moves step.line to stands.image)
      ∙ (sym stands.same_length
      ∙ (sym (sizes (crossing step.line.axis)) ∙ sym (length-line_along step.line.axis step.line.at book.base is.base_facts follow.has_line)))))

  drawn_once : CameBefore moves book.steps n kept → (i k : ℕ) → Says step.drawn i k → IsDrawnBefore kept (length kept) (row_on to.axis to.at i) (col_on to.axis to.at i) k → ⊥
  drawn_once came i k says drawn =
      let was = was_drawn moves book.steps kept n (row_on to.axis to.at i) (col_on to.axis to.at i) k came drawn in
      let cell = moved_cell moves step.line to i stands.image (stands.drawn_stay i (mentioned step.drawn i k says)) in
      let same = one_cell moves was.old_row was.old_col (row_on step.line.axis step.line.at i) (col_on step.line.axis step.line.at i) (row_on to.axis to.at i) (col_on to.axis to.at i) was.cell cell in
      follow.drawn_once i k says (subst (λ r. IsDrawnBefore book.steps n r (col_on step.line.axis step.line.at i) k) same.0 (subst (λ c. IsDrawnBefore book.steps n was.old_row c k) same.1 was.drawn))

  pub can_follow : CameBefore moves book.steps n kept → ((row col k : ℕ) → Known row col k → IsKnownBefore base kept (length kept) row col k) → CanFollow base kept (length kept) (moved step to)
  can_follow came known = record {
    has_line = has_line;
    premises_inside = λ i m. rw same_length (follow.premises_inside i m);
    drawn_inside = λ i m. rw same_length (follow.drawn_inside i m);
    something = follow.something;
    known = λ i k says. known (row_on to.axis to.at i) (col_on to.axis to.at i) k (stands.premises_known i k says);
    drawn_once = drawn_once came;
  }

  pub is_forced : IsForcedStep (clue_at new to) (length (line_of base to)) (moved step to)
  is_forced = rw (stands.same_clue, same_length) (derivation.forced n within)

  pub is_trimmed : IsTrimmed (clue_at old step.line) (length (line_of book.base step.line)) step → IsTrimmed (clue_at new to) (length (line_of base to)) (moved step to)
  is_trimmed trimmed = rw (stands.same_clue, same_length) trimmed

  pub came_from : CameFrom moves step (moved step to)
  came_from = record { image = stands.image; premises = refl; drawn = refl; drawn_stay = stands.drawn_stay }

-- steps that came from the first n steps came from the first n + 1
pub came_weaker : (moves : Moves) (steps kept : List Step) (n : ℕ) → CameBefore moves steps n kept → CameBefore moves steps (n + 1) kept
came_weaker moves steps kept n came m h = let from = came m h in (from.0, omega (arith, from.1), from.2)

abbrev pub no_step : Step
no_step = record { line = record { axis = Across; at = 0 }; premises = []; drawn = [] }

pub came_more : (moves : Moves) (steps kept : List Step) (n : ℕ) (step : Step) → CameBefore moves steps n kept → CameFrom moves (step_at steps n) step
    → CameBefore moves steps (n + 1) (kept ++ step ∷ [])
came_more moves steps kept n step came last m h =
    elim (cases_lt m (length kept)) [
      | inl below ↦
          let from = came m below in
          (from.0, omega (arith, from.1), subst (CameFrom moves (step_at steps from.0)) (sym (get_or-append kept (step ∷ []) no_step m below)) from.2)
      | inr above ↦
          let at_end : length kept ≡ m = omega (arith, length-append kept (step ∷ [])) in
          (n, omega arith, subst (CameFrom moves (step_at steps n)) (sym (get_or_push kept step no_step m at_end)) last)
    ]

-- a line that keeps its length has as many cells in the new facts
pub kept_length : (moves : Moves) (from to : LineId) (facts : Masks) → IsFacts facts → ((axis : Axis) → lines_along axis facts ≡ lines_after axis moves) → Some to ≡ image_of moves from
    → to.at < lines_after to.axis moves → KeepsLength moves from.axis → length (line_of facts to) ≡ lines_before (crossing from.axis) moves
kept_length moves from to facts is sizes image inside keeps =
    length-line_along to.axis to.at facts is (rw (sizes to.axis) inside)
    ∙ (sizes (crossing to.axis) ∙ (ap (λ axis. lines_after (crossing axis) moves) (images.same_axis moves from to (sym image)) ∙ sym keeps))

-- what a step of a derivation mentions lies on its line
module _ (moves : Moves) (old new : Clues) (book : Account) (n : ℕ) (is : IsAccount book) (derivation : IsDerivation old book) (books : HaveBooks moves old new) (within : n < length book.steps) where
  cells : length (line_of book.base (step_at book.steps n).line) ≡ lines_before (crossing (step_at book.steps n).line.axis) moves
  cells =
      let line = (step_at book.steps n).line in
      length-line_along line.axis line.at book.base is.base_facts (is.follows n within).has_line ∙ old_sizes moves old new book derivation books (crossing line.axis)

  pub premises_within : (i : ℕ) → Mentions (step_at book.steps n).premises i → i < lines_before (crossing (step_at book.steps n).line.axis) moves
  premises_within i m = rw (← cells) ((is.follows n within).premises_inside i m)

  pub drawn_within : (i : ℕ) → Mentions (step_at book.steps n).drawn i → i < lines_before (crossing (step_at book.steps n).line.axis) moves
  drawn_within i m = rw (← cells) ((is.follows n within).drawn_inside i m)

-- a step that was read from a list of steps
pub step_read : (items steps : List Step) (n : ℕ) (step : Step) → items ≡ steps → n < length items → step ≡ get_or items n step → step ≡ step_at steps n
step_read items steps n step same within read = read ∙ (get_or_default items n step no_step within ∙ ap (λ xs. step_at xs n) same)

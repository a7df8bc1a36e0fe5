-- Which steps of a book stand, step by step.
use Rattle.std.proofs.Common.{ℕ, List, [], ◌∷◌, ◌++◌, length, inl, inr, refl}
use Rattle.line_facts.specs.Masks.{Masks}
use Rattle.picture.specs.declared.line_id.LineId.{LineId}
use Rattle.clues.specs.Change.{Moves}
use Rattle.clues.specs.ClueBook.{Clues}
use Rattle.justify.specs.declared.step.Step.{Step}
use Rattle.justify.specs.Book.{IsKnownBefore}
use Rattle.retract.specs.StandingSteps.{Leave, Stands, moved}

-- a step that stands also stands where more is known
pub stands_alike : (moves : Moves) (old new : Clues) (One Other : ℕ → ℕ → ℕ → Type 0) (step : Step) (to : LineId) → ((row col k : ℕ) → One row col k → Other row col k)
    → Stands moves old new One step to → Stands moves old new Other step to
stands_alike moves old new One Other step to alike is = record {
  image = is.image;
  same_length = is.same_length;
  same_clue = is.same_clue;
  premises_stay = is.premises_stay;
  drawn_stay = is.drawn_stay;
  premises_known = λ i k says. alike _ _ _ (is.premises_known i k says);
}

pub none_left : (moves : Moves) (old new : Clues) (base : Masks) (kept : List Step) → Leave moves old new base [] kept kept
unfolding Leave
none_left moves old new base kept = refl

pub one_kept : (moves : Moves) (old new : Clues) (base : Masks) (step : Step) (steps kept all : List Step) (to : LineId) → Stands moves old new (IsKnownBefore base kept (length kept)) step to
    → Leave moves old new base steps (kept ++ moved step to ∷ []) all → Leave moves old new base (step ∷ steps) kept all
unfolding Leave
one_kept moves old new base step steps kept all to stands rest = inl (to, stands, rest)

pub one_gone : (moves : Moves) (old new : Clues) (base : Masks) (step : Step) (steps kept all : List Step) → ((to : LineId) → Stands moves old new (IsKnownBefore base kept (length kept)) step to → ⊥)
    → Leave moves old new base steps kept all → Leave moves old new base (step ∷ steps) kept all
unfolding Leave
one_gone moves old new base step steps kept all gone rest = inr (gone, rest)

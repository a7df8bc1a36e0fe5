-- The next step that a line gives.
use Rattle.std.specs.Prelude.{◌≡◌, ℕ, ◌<◌, ◌↔◌, List, length, slice_index, IsBitSet, Option, None, Some, Result, Ok}
use Rattle.std.specs.Prelude.{Err}
use Rattle.picture.specs.declared.line_id.LineId.{LineId}
use Rattle.clues.specs.declared.block.Block.{Block}
use Rattle.line_facts.specs.Fits.{CanFit, CanHave, Forces}
use Rattle.line_facts.specs.FactSets.{IsClosedLine}
use Rattle.justify.specs.declared.fault.StepFault.{StepFault}
use Rattle.justify.specs.declared.fault.StepFault.TheVariants as fault
use Rattle.justify.specs.declared.step.Step.{Step}
use Rattle.justify.specs.Premises.{Mentions, Says}
use Rattle.justify.specs.Steps.{IsForcedStep, IsTrimmed}

-- a line that forces nothing new, and that some list of colours fits
pub record DrawsNothing (clue : List Block) (left : List ℕ) : Type 0 where
  pub closed : IsClosedLine clue left
  pub fits : CanFit clue left

-- A step with all that a line newly forces where these colours are left, at least one: what it draws was left and is
-- forced, and each colour that was left and is not drawn is possible. Its premises force all that is drawn, each of
-- them has all colours that are excluded in its cell, and none of their cells can be left out. Some list fits the line.
pub record IsNewStep (clue : List Block) (line : LineId) (left : List ℕ) (step : Step) : Type 0 where
  pub of_line : step.line ≡ line
  pub draws : (i k : ℕ) → Says step.drawn i k → IsBitSet (slice_index left i) k × Forces clue left i k
  pub keeps : (i k : ℕ) → IsBitSet (slice_index left i) k → (Says step.drawn i k → ⊥) → CanHave clue left i k
  pub something : 0 < length step.drawn
  pub drawn_inside : (i : ℕ) → Mentions step.drawn i → i < length left
  pub inside : (i : ℕ) → Mentions step.premises i → i < length left
  pub whole : (i k : ℕ) → Mentions step.premises i
      → Says step.premises i k ↔ ((k < 16) × (IsBitSet (slice_index left i) k → ⊥))
  pub forced : IsForcedStep clue (length left) step
  pub trimmed : IsTrimmed clue (length left) step
  pub fits : CanFit clue left

-- no step where the line draws nothing new, Dead where no list fits it, and else the new step
abbrev pub Makes : List Block → LineId → List ℕ → Result (Option Step) StepFault → Type 0
Makes clue line left (Ok None) = DrawsNothing clue left
Makes clue line left (Ok (Some step)) = IsNewStep clue line left step
Makes clue line left (Err fault.Dead) = CanFit clue left → ⊥
Makes clue line left (Err fault.Memory) = Unit {0}

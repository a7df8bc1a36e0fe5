-- A step: a line that draws exclusions from premises on its own cells.
use Rattle.std.specs.Prelude.{◌≡◌, ℕ, List, [], slice_index_or}
use Rattle.picture.specs.declared.line_id.Axis.TheVariants.{Across}
use Rattle.clues.specs.declared.block.Block.{Block}
use Rattle.line_facts.specs.FactSets.{row_on, col_on}
use Rattle.justify.specs.declared.premise.Premise.{Premise}
use Rattle.justify.specs.declared.step.Step.{Step}
use Rattle.justify.specs.Premises.{Mentions, Says, SaysBut}
use Rattle.justify.specs.Exclusions.{CanHaveWithout, ForcesFrom}

-- the step at a place of a list, or one that draws nothing past its end
abbrev pub step_at : List Step → ℕ → Step
step_at steps n = slice_index_or steps n (record { line = record { axis = Across; at = 0 }; premises = []; drawn = [] })

-- it draws that colour k is not in a cell
pub record Draws (step : Step) (row col k : ℕ) : Type 0 where
  pub place : ℕ
  pub in_row : row ≡ row_on step.line.axis step.line.at place
  pub in_column : col ≡ col_on step.line.axis step.line.at place
  pub says : Says step.drawn place k

-- its line, of `cells` cells, forces all that it draws from its premises alone
abbrev pub IsForcedStep : List Block → ℕ → Step → Type 0
IsForcedStep clue cells step = (i k : ℕ) → Says step.drawn i k → ForcesFrom clue cells (Says step.premises) i k

-- without the premises of one cell, something that is drawn is not forced
pub record LosesWithout (clue : List Block) (cells : ℕ) (premises drawn : List Premise) (cell : ℕ) : Type 0 where
  pub place : ℕ
  pub colour : ℕ
  pub is_drawn : Says drawn place colour
  pub can_have : CanHaveWithout clue cells (SaysBut premises cell) place colour

-- no premise can be left out: without those of any one cell the line forces less than all that the step draws
abbrev pub IsTrimmed : List Block → ℕ → Step → Type 0
IsTrimmed clue cells step = (cell : ℕ) → Mentions step.premises cell
    → LosesWithout clue cells step.premises step.drawn cell

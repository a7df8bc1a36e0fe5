-- A book of steps over a base: a reason for each exclusion.
use Rattle.std.specs.Prelude.{◌≡◌, ℕ, ◌<◌, ◌⊎◌, ◌↔◌, List, [], ◌∷◌, ◌++◌, length}
use Rattle.line_facts.specs.Masks.{Masks}
use Rattle.picture.specs.Rows.{line_of, width_of, HasLine}
use Rattle.clues.specs.ClueBook.{Clues, clue_at}
use Rattle.line_facts.specs.FactSets.{IsFacts, Leaves, Excludes, SameShape, row_on, col_on}
use Rattle.justify.specs.declared.step.Step.{Step}
use Rattle.justify.specs.Premises.{Mentions, Says}
use Rattle.justify.specs.Steps.{step_at, Draws, IsForcedStep, IsTrimmed}

-- the model of a book: its base, the steps, and the facts, which are the exclusions that are known after them
pub record Account : Type 0 where
  pub base : Masks
  pub steps : List Step
  pub facts : Masks

abbrev pub account : Masks → List Step → Masks → Account
account base steps facts = record { base = base; steps = steps; facts = facts }

-- one of the first n steps draws that colour k is not in a cell
pub record IsDrawnBefore (steps : List Step) (n row col k : ℕ) : Type 0 where
  pub which : ℕ
  pub before : which < n
  pub draws : Draws (step_at steps which) row col k

-- an exclusion that is known before step n: it is in the base, or an earlier step draws it
abbrev pub IsKnownBefore : Masks → List Step → ℕ → ℕ → ℕ → ℕ → Type 0
IsKnownBefore base steps n row col k = Excludes base row col k ⊎ IsDrawnBefore steps n row col k

-- Step n of a book: it is of a line of the base and draws something; each
-- premise is known before it, and nothing that it draws was drawn before.
pub record CanFollow (base : Masks) (steps : List Step) (n : ℕ) (step : Step) : Type 0 where
  pub has_line : HasLine base step.line
  pub premises_inside : (i : ℕ) → Mentions step.premises i → i < length (line_of base step.line)
  pub drawn_inside : (i : ℕ) → Mentions step.drawn i → i < length (line_of base step.line)
  pub something : 0 < length step.drawn
  pub known : (i k : ℕ) → Says step.premises i k
      → IsKnownBefore base steps n (row_on step.line.axis step.line.at i) (col_on step.line.axis step.line.at i) k
  pub drawn_once : (i k : ℕ) → Says step.drawn i k
      → IsDrawnBefore steps n (row_on step.line.axis step.line.at i) (col_on step.line.axis step.line.at i) k → ⊥

-- the exclusions that are known after the first n steps: those of the base, and all that these steps draw
pub record AreFactsBehind (base : Masks) (steps : List Step) (n : ℕ) (facts : Masks) : Type 0 where
  pub same_shape : SameShape base facts
  pub leaves : (row col k : ℕ)
      → Leaves facts row col k ↔ (Leaves base row col k × (IsDrawnBefore steps n row col k → ⊥))

-- the invariant of a book: each step can follow the ones before it, and the facts are those after all steps
pub record IsAccount (book : Account) : Type 0 where
  pub base_facts : IsFacts book.base
  pub follows : (n : ℕ) → n < length book.steps → CanFollow book.base book.steps n (step_at book.steps n)
  pub behind : AreFactsBehind book.base book.steps (length book.steps) book.facts

-- a step that can follow all steps of a book
abbrev pub CanAdd : Account → Step → Type 0
CanAdd book step = CanFollow book.base book.steps (length book.steps) step

-- the facts gain what a step draws
pub record GainDrawn (step : Step) (old new : Masks) : Type 0 where
  pub same_shape : SameShape old new
  pub leaves : (row col k : ℕ) → Leaves new row col k ↔ (Leaves old row col k × (Draws step row col k → ⊥))

-- the book with one more step
pub record Adds (old : Account) (step : Step) (new : Account) : Type 0 where
  pub base : new.base ≡ old.base
  pub steps : new.steps ≡ old.steps ++ step ∷ []
  pub facts : GainDrawn step old.facts new.facts

-- A derivation from clues: the book has their sizes, and each step's line
-- forces by its clue all that the step draws from the step's premises alone.
pub record IsDerivation (clues : Clues) (book : Account) : Type 0 where
  pub rows : length book.base ≡ length clues.rows
  pub columns : width_of book.base ≡ length clues.columns
  pub forced : (n : ℕ) → n < length book.steps → IsForcedStep (clue_at clues (step_at book.steps n).line)
      (length (line_of book.base (step_at book.steps n).line)) (step_at book.steps n)

-- no step of the book has a premise that it can do without
abbrev pub AreTrimmed : Clues → Account → Type 0
AreTrimmed clues book = (n : ℕ) → n < length book.steps
    → IsTrimmed (clue_at clues (step_at book.steps n).line) (length (line_of book.base (step_at book.steps n).line))
    (step_at book.steps n)

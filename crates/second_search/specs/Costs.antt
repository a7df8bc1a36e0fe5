-- The laws of costs: each part has one, and a picture is left
-- undecided exactly where a part costs more than is allowed.
use Rattle.std.specs.Prelude.{◌≡◌, ℕ, ◌+◌, ◌<◌, ◌↔◌, List, Some, length}
use Rattle.line_facts.specs.Masks.{Masks}
use Rattle.picture.specs.Rows.{Rows}
use Rattle.clues.specs.ClueBook.{Clues}
use Rattle.line_facts.specs.FactSets.{IsFacts}
use Rattle.second_search.specs.declared.counting.Ending.TheVariants as ending
use Rattle.second_search.specs.declared.keeper.Answer.TheVariants.{Unknown}
use Rattle.second_search.specs.declared.keeper.KeptPart.{KeptPart}
use Rattle.second_search.specs.JudgedParts.{BreaksOff, FindsOne, Judges, answer_at, cells_at}
use Rattle.second_search.specs.Parts.{IsScene, board}
use Rattle.second_search.specs.FixedOrder.{EndsAs, HasCost, alone}
use Rattle.second_search.specs.Verdict.{Unique}

-- The search of the fixed order ends, so facts have a cost, and so has each part of a scene.
pub record CostsAreThere : Type 0 where
  pub facts : (clues : Clues) (known : Rows) (facts : Masks) → IsFacts facts → (n : ℕ) × HasCost clues known facts n
  pub parts : (clues : Clues) (givens : List ℕ) (facts : Masks) (picture : Rows) (cells : List ℕ)
      → IsScene clues givens facts picture → IsFacts facts
      → (n : ℕ) × HasCost clues picture (alone cells facts picture) n

-- a part of which nothing is known costs more than `most` splits
abbrev pub IsDear : Clues → Masks → Rows → ℕ → List KeptPart → ℕ → Type 0
IsDear clues facts picture most kept i = (answer_at kept i ≡ Unknown)
    × ((cost : ℕ) × (HasCost clues picture (alone (cells_at kept i) facts picture) cost × (most < cost)))

-- the first part that costs more than `most` splits
pub record IsFirstDear (clues : Clues) (facts : Masks) (picture : Rows) (most : ℕ) (kept : List KeptPart)
    (i : ℕ) : Type 0 where
  pub place : i < length kept
  pub is : IsDear clues facts picture most kept i
  pub before : (j : ℕ) → j < i → IsDear clues facts picture most kept j → ⊥

-- Under an allowance the search of facts is broken off exactly where they cost more. A picture is left undecided, and
-- its search broken off, at the first part that costs more; where it is decided, no part that was searched does.
pub record CostsDecide : Type 0 where
  pub facts : (clues : Clues) (known : Rows) (facts : Masks) (most cost : ℕ) → HasCost clues known facts cost
      → EndsAs clues known facts (Some most) ending.BrokenOff most ↔ (most < cost)
  pub undecided : (clues : Clues) (givens : List ℕ) (facts : Masks) (picture : Rows) (most : ℕ)
      (old new : List KeptPart) (searched splits : ℕ)
      → IsScene clues givens facts picture → IsFacts facts
      → (broken : BreaksOff (board clues facts picture) (Some most) old new searched splits)
      → IsFirstDear clues facts picture most old broken.at
  pub unique :
      (clues : Clues) (facts : Masks) (picture : Rows) (most : ℕ) (old new : List KeptPart) (searched splits : ℕ)
      → Judges (board clues facts picture) (Some most) old new Unique searched splits → (i : ℕ) → i < length old
      → IsDear clues facts picture most old i → ⊥
  pub other :
      (clues : Clues) (facts : Masks) (picture : Rows) (most : ℕ) (old new : List KeptPart) (searched splits : ℕ)
      (found : FindsOne (board clues facts picture) (Some most) old new searched splits) → (i : ℕ) → i < found.at + 1
      → IsDear clues facts picture most old i → ⊥

-- What the answer of a judgement means for a caller.
use Rattle.std.specs.Prelude.{ℕ, List}
use Rattle.picture.specs.Rows.{Rows}
use Rattle.picture.specs.CellSet.{HasCell}
use Rattle.clues.specs.ClueBook.{Clues}
use Rattle.clues.specs.Solution.{IsOther}
use Rattle.second_search.specs.declared.keeper.Judged.{Judged}
use Rattle.second_search.specs.declared.keeper.Judged.TheVariants as judged

-- the answer is true: no other picture has the clues and the givens, or the one that is answered has them
abbrev pub IsAnswer : Clues → List ℕ → Rows → Judged → Type 0
IsAnswer clues givens picture judged.Unique = (other : Rows) → IsOther clues (HasCell givens) picture other → ⊥
IsAnswer clues givens picture (judged.Other other) = IsOther clues (HasCell givens) picture other.now
IsAnswer clues givens picture judged.Undecided = Unit {0}

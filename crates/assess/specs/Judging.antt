-- The verdict of a puzzle of whose parts nothing is known, under an allowance of splits for each part.
use Rattle.std.specs.Prelude.{ℕ, List, Option}
use Rattle.line_facts.specs.Masks.{Masks}
use Rattle.picture.specs.CellSet.{HasCell}
use Rattle.picture.specs.Rows.{Rows}
use Rattle.clues.specs.ClueBook.{clues_of}
use Rattle.clues.specs.Solution.{IsOnlySolution, IsOther}
use Rattle.second_search.specs.declared.keeper.Judged.{Judged}
use Rattle.second_search.specs.declared.keeper.Judged.TheVariants as judged
use Rattle.second_search.specs.declared.keeper.KeptPart.{KeptPart}
use Rattle.second_search.specs.Verdict.{Verdict as Judgement}
use Rattle.second_search.specs.Verdict as judgement
use Rattle.second_search.specs.JudgedParts.{Judges, Starts}
use Rattle.second_search.specs.Parts.{board}
use Rattle.assess.specs.declared.assessment.Verdict.{Verdict}
use Rattle.assess.specs.declared.assessment.Verdict.TheVariants.{Unique, Ambiguous, Undecided}
use Rattle.assess.specs.Settling.{IsMap}

-- The parts of the puzzle's map are judged in order, up to the first that has another filling or costs more splits
-- than are allowed.
pub record AreJudged (picture : Rows) (givens : List ℕ) (allowance : Option ℕ) (j : Judgement) : Type 0 where
  pub map : Masks
  pub is_map : IsMap picture givens map
  pub kept : List KeptPart
  pub last : List KeptPart
  pub searched : ℕ
  pub splits : ℕ
  pub starts : Starts map kept
  pub judges : Judges (board (clues_of picture) map picture) allowance kept last j searched splits

-- no other picture has the clues and the givens; or this one has; or the allowance leaves it open
abbrev pub IsVerdict : Rows → List ℕ → Option ℕ → Verdict → Type 0
IsVerdict picture givens allowance Unique =
    AreJudged picture givens allowance judgement.Unique × IsOnlySolution (clues_of picture) (HasCell givens) picture
IsVerdict picture givens allowance (Ambiguous other) =
    AreJudged picture givens allowance judgement.Other × IsOther (clues_of picture) (HasCell givens) picture other
IsVerdict picture givens allowance Undecided = AreJudged picture givens allowance judgement.Undecided

-- a judgement as a verdict, which has a copy of the other picture
abbrev pub verdict_of : Judged → Verdict
verdict_of judged.Unique = Unique
verdict_of (judged.Other other) = Ambiguous other.now
verdict_of judged.Undecided = Undecided

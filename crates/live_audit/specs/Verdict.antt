-- The verdict of a bench: whether another picture has the clues and the givens.
use Rattle.std.specs.Prelude.{◌≡◌, ℕ, ◌≤◌, Bool, true, false, List, length, Option, Some, unwrap_or}
use Rattle.picture.specs.Rows.{Rows}
use Rattle.clues.specs.ClueBook.{clues_of}
use Rattle.clues.specs.Solution.{IsOther}
use Rattle.line_facts.specs.Counts.{counted}
use Rattle.second_search.specs.declared.keeper.Judged.{Judged}
use Rattle.second_search.specs.declared.keeper.Judged.TheVariants as judged
use Rattle.second_search.specs.declared.keeper.KeptPart.{KeptPart}
use Rattle.second_search.specs.Verdict.{Verdict as Judgement}
use Rattle.second_search.specs.Verdict as judgement
use Rattle.second_search.specs.JudgedParts.{Done, FirstFilling, HasFilling, HasNoFilling, Judges}
use Rattle.second_search.specs.Evaluations.{AreFew}
use Rattle.edits.specs.Design.{Design}
use Rattle.live_audit.specs.declared.verdict.Verdict.{Verdict}
use Rattle.live_audit.specs.declared.verdict.Verdict.TheVariants.{Unique, Ambiguous, Undecided}
use Rattle.live_audit.specs.Audit.{nothing_done}
use Rattle.live_audit.specs.Bench.{IsGiven, Seen, board_seen}

-- another picture for a document: one with its clues, and with its colours in its givens
abbrev pub IsOtherFor : Design → Rows → Type 0
IsOtherFor d other = IsOther (clues_of d.rows) (IsGiven d) d.rows other

-- The verdict is true of a document: Unique says that there is no other picture, and Ambiguous shows one;
-- Undecided is possible only where an allowance is set, and names it.
abbrev pub IsVerdictOn : Design → Option ℕ → Verdict → Type 0
IsVerdictOn d allowance Unique = (other : Rows) → IsOtherFor d other → ⊥
IsVerdictOn d allowance (Ambiguous other) = IsOtherFor d other.now
IsVerdictOn d allowance (Undecided splits) = allowance ≡ Some splits

-- ---- what a verdict takes and keeps

-- The picture is judged by its parts. Where another filling of a part is kept, nothing is searched; else the
-- parts of which nothing is known are searched in order, up to the first that has another filling or costs
-- more than is allowed. What the searches that ended found is kept, and the verdict's work is counted: each
-- evaluation is a call of the engine, a part that is searched takes at least one, and under an allowance
-- their number is bounded. All else is as before.
pub record Decides (old new : Seen) (j : Judgement) : Type 0 where
  pub same : new ≡ record old { kept = new.kept; work = record new.work { edit = old.work.edit }; calls = new.calls }
  pub work : Done 0 new.work.parts 0 new.work.splits nothing_done new.work.search old.calls new.calls
      (Judges (board_seen old) old.allowance old.kept new.kept j)
  pub calls : new.calls ≡ counted old.calls new.work.search.evaluations
  pub evaluated : new.work.parts ≤ new.work.search.evaluations
  pub few : AreFew old.allowance old.book.facts (length old.kept) new.work.search.evaluations

-- the verdict says what was judged; the other picture that it shows is the first filling that is kept
abbrev pub AnswersAs : Seen → Verdict → Judgement → Type 0
AnswersAs s Unique j = j ≡ judgement.Unique
AnswersAs s (Ambiguous other) j = (j ≡ judgement.Other) × FirstFilling s.kept other.now
AnswersAs s (Undecided splits) j = (j ≡ judgement.Undecided) × (s.allowance ≡ Some splits)

-- what a call that answers this verdict does
abbrev pub Tells : Seen → Seen → Verdict → Type 0
Tells old new verdict = (j : Judgement) × (AnswersAs new verdict j × Decides old new j)

-- ---- a verdict by what is kept

-- the first filling that is kept is another picture for a document
abbrev pub ShowsOthers : Design → List KeptPart → Type 0
ShowsOthers d kept = (other : Rows) → FirstFilling kept other → IsOtherFor d other

-- What is kept, and whether the judgement was decided, determine the judgement: if a filling is kept, there
-- is another picture; else there is none if it was decided, and if it was not, an allowance is set.
pub record IsToldBy (d : Design) (allowance : Option ℕ) (kept : List KeptPart) (is_decided : Bool)
    (j : Judgement) : Type 0 where
  pub others : ShowsOthers d kept
  pub other : (i : ℕ) → HasFilling kept i → j ≡ judgement.Other
  pub unique : HasNoFilling kept (length kept) → is_decided ≡ true
      → (j ≡ judgement.Unique) × ((other : Rows) → IsOtherFor d other → ⊥)
  pub undecided : HasNoFilling kept (length kept) → is_decided ≡ false
      → (j ≡ judgement.Undecided) × (allowance ≡ Some (unwrap_or allowance 0))

-- whether an answer is decided: only one that was broken off is not
abbrev pub WasDecided : Judged → Bool → Type 0
WasDecided judged.Unique r = r ≡ true
WasDecided (judged.Other other) r = r ≡ true
WasDecided judged.Undecided r = r ≡ false

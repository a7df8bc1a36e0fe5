-- The law of lists of calls, one of strokes, one of verdicts after a certificate's call, and one of other pictures.
use Rattle.std.specs.Prelude.{◌≡◌, ◌+◌, ◌≤◌, ℕ, List}
use Rattle.picture.specs.Rows.{Rows}
use Rattle.picture.specs.Document.{AreColoured}
use Rattle.picture.specs.LineSet.{Lines, name_count}
use Rattle.clues.specs.Change.{Moves}
use Rattle.justify.specs.Book.{Account, IsAccount}
use Rattle.retract.specs.Dirty.{AreDirty}
use Rattle.retract.specs.StandingSteps.{AreStanding}
use Rattle.propagate.specs.Turns.{cells_drawn, steps_added}
use Rattle.edits.specs.Design.{Design}
use Rattle.live_audit.specs.declared.verdict.Verdict.{Verdict}
use Rattle.live_audit.specs.declared.verdict.Verdict.TheVariants.{Undecided}
use Rattle.live_audit.specs.Audit.{nothing_done}
use Rattle.live_audit.specs.Bench.{Seen, IsAudited}
use Rattle.live_audit.specs.Calls.{Accepts, Call, AreRight, IsSearched, Lead, after_calls, machine}
use Rattle.live_audit.specs.Stroke.{Stroke, stroke_moves}
use Rattle.live_audit.specs.Verdict.{IsOtherFor, Tells}

-- After any list of edits, undos, redos, verdicts, allowances and certificates, accepted or refused: the state is
-- audited, and history and allowance are the machine's. Each answer was right, so each verdict was true of the document
-- that the machine then had, and each certificate fits it. The engine's calls never fall.
pub record ListsStayAudited : Type 0 where
  pub audited : (calls : List Call) (old new : Seen) → IsAudited old → Lead calls old new → IsAudited new
  pub machine_is : (calls : List Call) (old new : Seen) → Lead calls old new
      → machine new.history new.allowance ≡ after_calls (machine old.history old.allowance) calls
  pub calls : (calls : List Call) (old new : Seen) → Lead calls old new → old.calls ≤ new.calls
  pub answers : (calls : List Call) (old new : Seen) → Lead calls old new
      → AreRight (machine old.history old.allowance) calls

-- Of the steps before a stroke those that are still valid are kept; all other steps are new. There are at most as many
-- evaluations as dirty lines and cells in which new steps exclude colours, each cell counted once for each step.
pub record EvaluatesFew (moves : Moves) (old new : Seen) : Type 0 where
  pub kept : Account
  pub is_account : IsAccount kept
  pub over : kept.base ≡ new.book.base
  pub standing : AreStanding moves old.clues new.clues new.book.base old.book.steps kept.steps
  pub dirty : Lines
  pub are_dirty : AreDirty moves old.clues new.clues old.book.facts kept.facts dirty
  pub evaluations : new.work.edit.evaluations ≤ name_count dirty + cells_drawn (steps_added kept new.book)
  pub calls : new.calls ≤ old.calls + (name_count dirty + cells_drawn (steps_added kept new.book))

-- This holds for each accepted stroke.
abbrev pub StrokesEvaluateFew : Type 0
StrokesEvaluateFew = (stroke : Stroke) (old new : Seen) → Accepts stroke old new
    → EvaluatesFew (stroke_moves old.history stroke) old new

-- A verdict is decided, and its work is none: no part is searched, no line evaluated.
pub record SearchesNothing (old new : Seen) (verdict : Verdict) : Type 0 where
  pub decided : (splits : ℕ) → verdict ≡ Undecided splits → ⊥
  pub work : new.work ≡ record { edit = old.work.edit; search = nothing_done; parts = 0; splits = 0 }

-- Each verdict right after a certificate's call that was not refused searches nothing, whatever the allowance.
abbrev pub CertifiedVerdictsSearchNothing : Type 0
CertifiedVerdictsSearchNothing = (old between new : Seen) (verdict : Verdict) → IsSearched old between
    → Tells between new verdict → SearchesNothing between new verdict

-- Another picture for a document has colours of the document's palette alone, since clues name no others.
abbrev pub OthersAreColoured : Type 0
OthersAreColoured = (d : Design) (other : Rows) → AreColoured d.rows d.colours → IsOtherFor d other
    → AreColoured other d.colours

-- What calls do to a bench, and lists of calls.
use Rattle.std.specs.Prelude.{◌≡◌, ◌≤◌, ℕ, List, [], ◌∷◌, Option, Some, None, Result, MatchResult, unwrap_or}
use Rattle.cert_text.specs.Cert.{Certificate}
use Rattle.clues.specs.Change.{Moves}
use Rattle.live_audit.specs.Audit.{GoesOn, nothing_done}
use Rattle.second_search.specs.declared.keeper.KeptPart.{KeptPart}
use Rattle.second_search.specs.Verdict.{Verdict as Judgement}
use Rattle.second_search.specs.CarriedParts.{Carries}
use Rattle.second_search.specs.JudgedParts.{HasFilling, Judges}
use Rattle.edits.specs.declared.fault.EditFault.{EditFault}
use Rattle.edits.specs.declared.fault.EditFault.TheVariants.{Memory}
use Rattle.edits.specs.History.{History}
use Rattle.live_audit.specs.declared.certifying.Finding.{Finding}
use Rattle.live_audit.specs.declared.verdict.Verdict.{Verdict}
use Rattle.live_audit.specs.Bench.{AreAnswersOf, Seen, IsAudited, board_seen}
use Rattle.live_audit.specs.Certify.{Certifies}
use Rattle.live_audit.specs.Stroke.{Stroke, after_stroke, stroke_fault, stroke_moves}
use Rattle.live_audit.specs.Verdict.{IsVerdictOn, Tells}

-- The book goes on from the one before, by these moves of lines: it begins with the steps that are still valid, and
-- closing it took the work that is counted. A part keeps what was known of it if each line through it is the same; of
-- all others nothing is known. The allowance stays, and what was searched before stays counted.
pub record CarriesOn (moves : Moves) (old new : Seen) : Type 0 where
  pub book : GoesOn moves old.clues new.clues old.book new.book nothing_done new.work.edit old.calls new.calls
  pub kept : Carries (board_seen old) (board_seen new) old.kept new.kept
  pub allowance : new.allowance ≡ old.allowance
  pub search : new.work ≡ record old.work { edit = new.work.edit }

-- all is as before, except that the engine may have been called
abbrev pub IsAsBefore : Seen → Seen → Type 0
IsAsBefore old new = new ≡ record old { calls = new.calls }

-- what a bench is once a verdict that it showed, if it had the memory for one, is no longer looked at
abbrev pub IsLeftBy : {X : Type 0} → Seen → Result Verdict X → Seen → Type 0
IsLeftBy old result last = IsAudited last
    × (old.calls ≤ last.calls × MatchResult result (Tells old last) (λ _. IsAsBefore old last))

-- What is known of the parts is what a verdict without an allowance keeps of them.
abbrev pub IsSearchedTo : Seen → List KeptPart → Type 0
IsSearchedTo old kept = (j : Judgement) × ((searched : ℕ)
    × ((splits : ℕ) × Judges (board_seen old) None old.kept kept j searched splits))

abbrev pub IsSearched : Seen → Seen → Type 0
IsSearched old new = IsSearchedTo old new.kept

-- All is as before, except that the engine may have been called, and that what is known of the parts is what a verdict
-- without an allowance keeps of them.
pub record Learns (old new : Seen) : Type 0 where
  pub same : new ≡ record old { kept = new.kept; calls = new.calls }
  pub kept : IsSearched old new

-- What is known of the parts once a finding is kept: what was known, if it has nothing new. It is true, and is what a
-- verdict without an allowance keeps; where another filling was kept before, the finding has nothing new.
abbrev pub kept_then : List KeptPart → Option (List KeptPart) → List KeptPart
kept_then kept None = kept
kept_then kept (Some next) = next

pub record IsFoundOn (s : Seen) (found : Finding) : Type 0 where
  pub searched : IsSearchedTo s (kept_then s.kept found.keeper)
  pub answers : AreAnswersOf s.history.document s.clues s.book.facts (kept_then s.kept found.keeper)
  pub at_once : (i : ℕ) → HasFilling s.kept i → found.keeper ≡ None

-- Where another filling of a part is kept, nothing changes, not even the engine's calls.
abbrev pub IsAtOnce : Seen → Seen → Type 0
IsAtOnce old new = (i : ℕ) → HasFilling old.kept i → new ≡ old

-- A stroke is accepted: no error refuses it, the history goes on by it, and the book from the one before.
pub record Accepts (stroke : Stroke) (old new : Seen) : Type 0 where
  pub lawful : stroke_fault old.history stroke ≡ None
  pub history : new.history ≡ after_stroke old.history stroke
  pub book : CarriesOn (stroke_moves old.history stroke) old new

-- A stroke is refused by the first error that holds, or by Memory if none does. Nothing changes, except that the engine
-- may have been called; where an error holds, it was not.
pub record Refuses (stroke : Stroke) (fault : EditFault) (old new : Seen) : Type 0 where
  pub first : fault ≡ unwrap_or (stroke_fault old.history stroke) Memory
  pub as_before : IsAsBefore old new
  pub uncalled : (found : EditFault) → stroke_fault old.history stroke ≡ Some found → new ≡ old

-- ---- lists

-- A call with its answer. A stroke has the error that refused it, or none. A verdict and a certificate have what was
-- found, or none where memory ran out. An allowance is set.
pub data Call : Type 0 where
  Strokes : Stroke → Option EditFault → Call
  Asks : Option Verdict → Call
  Allows : Option ℕ → Call
  Proves : Option (Option Certificate) → Call

-- what a call with its answer does
abbrev pub Answers : Call → Seen → Seen → Type 0
Answers (Strokes stroke None) old new = Accepts stroke old new × IsAudited new
Answers (Strokes stroke (Some fault)) old new = Refuses stroke fault old new
Answers (Asks None) old new = IsAsBefore old new
Answers (Asks (Some verdict)) old new =
    Tells old new verdict × (IsAudited new × IsVerdictOn old.history.document old.allowance verdict)
Answers (Allows allowance) old new = new ≡ record old { allowance = allowance }
Answers (Proves None) old new = IsAsBefore old new
Answers (Proves (Some found)) old new = Certifies old.history.document found × (Learns old new × IsAudited new)

-- Calls lead from one state to another, one after the other, and the engine's calls never fall.
abbrev pub Lead : List Call → Seen → Seen → Type 0
Lead [] old new = new ≡ old
Lead (call ∷ calls) old new =
    (between : Seen) × (Answers call old between × ((old.calls ≤ between.calls) × Lead calls between new))

-- the machine: a history, and the allowance
pub record Machine : Type 0 where
  pub history : History
  pub allowance : Option ℕ

abbrev pub machine : History → Option ℕ → Machine
machine history allowance = record { history = history; allowance = allowance }

-- an accepted stroke leads the history on, an allowance that is set
-- is the new one, and all other calls leave the machine as it is
abbrev pub after_call : Machine → Call → Machine
after_call m (Strokes stroke None) = machine (after_stroke m.history stroke) m.allowance
after_call m (Strokes stroke (Some fault)) = m
after_call m (Asks verdict) = m
after_call m (Allows allowance) = machine m.history allowance
after_call m (Proves found) = m

abbrev pub after_calls : Machine → List Call → Machine
after_calls m [] = m
after_calls m (call ∷ calls) = after_calls (after_call m call) calls

-- The answer is right. A stroke is accepted only where no error holds, and refused by the first that does, or by Memory
-- if none does. A verdict is true of the machine's document, and Undecided names the machine's allowance. A certificate
-- fits that document.
abbrev pub IsRight : Machine → Call → Type 0
IsRight m (Strokes stroke None) = stroke_fault m.history stroke ≡ None
IsRight m (Strokes stroke (Some fault)) = fault ≡ unwrap_or (stroke_fault m.history stroke) Memory
IsRight m (Asks None) = Unit {0}
IsRight m (Asks (Some verdict)) = IsVerdictOn m.history.document m.allowance verdict
IsRight m (Allows allowance) = Unit {0}
IsRight m (Proves None) = Unit {0}
IsRight m (Proves (Some found)) = Certifies m.history.document found

abbrev pub AreRight : Machine → List Call → Type 0
AreRight m [] = Unit {0}
AreRight m (call ∷ calls) = IsRight m call × AreRight (after_call m call) calls

-- The answers to lines, as the bytes that are written.
use Rattle.std.specs.Prelude.{◌≡◌, ◌≤◌, ◌⊎◌, ℕ, true, false, List, [], codes, Result, Ok, Err}
use Rattle.std.specs.declared.vec.Vec.{Vec}
use Rattle.std.specs.declared.alloc.Global.{Global}
use Rattle.picture.specs.Rows.{Rows}
use Rattle.non_text.specs.WrittenNon.{is_two_colour}
use Rattle.non_text.specs.Written.{non_text_of}
use Rattle.live_audit.specs.declared.verdict.Verdict.{Verdict}
use Rattle.live_audit.specs.Bench.{Seen}
use Rattle.live_audit.specs.Calls.{IsAsBefore}
use Rattle.session.specs.Session.{JudgesAs}
use Rattle.edits.specs.declared.fault.EditFault.{EditFault}
use Rattle.session.specs.declared.answer.Answer.{Answer}
use Rattle.session.specs.declared.answer.Answer.TheVariants.{Silence, Done, Text, Refused}
use Rattle.session.specs.declared.refusal.Refusal.TheVariants.{Edit, Memory, TwoColoursOnly}
use Rattle.session.specs.Refusal.{refusal_line}

abbrev pub answer_text : Answer → List ℕ
answer_text Silence = []
answer_text Done = codes "ok\n"
answer_text (Text text) = text.items
answer_text (Refused refusal) = refusal_line refusal

-- the answer to a stroke
abbrev pub stroke_said : Result (Unit {0}) EditFault → Answer
stroke_said (Ok done) = Done
stroke_said (Err fault) = Refused (Edit fault)

-- the answer that shows a text, or that memory ran out
abbrev pub text_said : {E : Type 0} → Result (Vec ℕ Global) E → Answer
text_said (Ok text) = Text text
text_said (Err e) = Refused Memory

-- The .non text, or out of memory, where no cell has a colour above 1; else the refusal `TwoColoursOnly`.
abbrev pub GivesNon : Rows → Answer → Type 0
GivesNon rows Silence = ⊥
GivesNon rows Done = ⊥
GivesNon rows (Text text) = (is_two_colour rows ≡ true) × (text.items ≡ non_text_of rows)
GivesNon rows (Refused fault) =
    ((fault ≡ TwoColoursOnly) × (is_two_colour rows ≡ false)) ⊎ ((fault ≡ Memory) × (is_two_colour rows ≡ true))

-- ---- where a verdict was asked for

-- The text that shows the verdict; or memory ran out for one of
-- the two, and nothing changed but the engine's calls. These do not fall.
abbrev pub IsAsked : {E : Type 0} → (Verdict → List ℕ) → Seen → Seen → Result (Vec ℕ Global) E → Type 0
IsAsked shown old new (Ok text) =
    (old.calls ≤ new.calls) × ((verdict : Verdict) × (JudgesAs old new verdict × (text.items ≡ shown verdict)))
IsAsked shown old new (Err e) = (old.calls ≤ new.calls) × IsAsBefore old new

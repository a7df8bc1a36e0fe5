-- What a session says: a relation of the state of the bench, a line's request, the text that is written, and the state
-- after it. The request and the state determine the text, except for the other picture that is shown, a reason, a
-- certificate, and whether memory ran out.
use Rattle.std.specs.Prelude.{◌≡◌, ◌≤◌, ◌⊎◌, ℕ, true, false, List, [], ◌∷◌, ◌++◌, length, take, codes, Option}
use Rattle.std.specs.Prelude.{Result, Ok, Err}
use Rattle.std.specs.Io.KnownBytes.{Appends, Consumes, IsAtEnd}
use Rattle.ppm_text.specs.Text.{ppm_text}
use Rattle.non_text.specs.WrittenNon.{is_two_colour}
use Rattle.non_text.specs.Written.{non_text_of}
use Rattle.edits.specs.declared.fault.EditFault.{EditFault}
use Rattle.edits.specs.declared.fault.EditFault.TheVariants.{Place}
use Rattle.edits.specs.Fault.{has_cell}
use Rattle.live_audit.specs.declared.verdict.Verdict.{Verdict}
use Rattle.live_audit.specs.declared.why.Why.{Why}
use Rattle.live_audit.specs.Assessing.{IsAssessmentOf, IsPathOf}
use Rattle.live_audit.specs.Bench.{IsAudited, Seen}
use Rattle.live_audit.specs.Calls.{Accepts, IsAsBefore, Learns, Refuses}
use Rattle.live_audit.specs.Reason.{Explains}
use Rattle.live_audit.specs.Stroke.{Stroke, Edits, Undoes, Redoes}
use Rattle.live_audit.specs.Verdict.{IsVerdictOn, Tells}
use Rattle.cert_text.specs.Cert.{Certificate}
use Rattle.live_audit.specs.Certify.{Certifies}
use Rattle.command_text.specs.declared.command.Command.{Command}
use Rattle.command_text.specs.declared.command.Command.TheVariants as command
use Rattle.command_text.specs.declared.request.Request.{Request}
use Rattle.command_text.specs.declared.session_fault.SessionFault.{SessionFault}
use Rattle.command_text.specs.declared.session_fault.SessionFault.TheVariants as fault
use Rattle.command_text.specs.declared.request.Request.TheVariants as request
use Rattle.report_text.specs.ClueText.{clues_text}
use Rattle.command_text.specs.Faults.{name_of}
use Rattle.command_text.specs.Lines.{ended_lines_of, lines_of, request_of}
use Rattle.command_text.specs.Words.{Texts}
use Rattle.session.specs.Allowing.{assess_allowance}
use Rattle.session.specs.Refusal.{edit_line, memory_line, refused}
use Rattle.report_text.specs.AssessmentText.{assessment_text}
use Rattle.session.specs.Texts.{certified_text, content, done_text, path_shown, verdict_text, verdict_word, why_text}
use Rattle.report_text.specs.Report.{report_text}
use Rattle.report_text.specs.Shown.{map_text}

-- ---- reports

-- the report of a state with a verdict's word
abbrev pub report_by : Seen → List ℕ → List ℕ
report_by s word =
    report_text s.history.document s.clues s.book.facts word (length s.history.past) (length s.history.future)

abbrev pub report_on : Seen → Verdict → List ℕ
report_on s verdict = report_by s (verdict_word verdict)

-- ---- one command

-- An edit, an undo or a redo: it is accepted, and what follows
-- from the picture is that of the new one; or it is refused.
abbrev pub SaysStroke : Stroke → Seen → List ℕ → Seen → Type 0
SaysStroke stroke old text new =
    ((text ≡ done_text) × (Accepts stroke old new × IsAudited new))
    ⊎ ((fault : EditFault) × ((text ≡ edit_line fault) × Refuses stroke fault old new))

-- the text is this one, and the state stays as it is
abbrev pub ShowsText : List ℕ → Seen → List ℕ → Seen → Type 0
ShowsText shown old text new = (text ≡ shown) × (new ≡ old)

-- the same, on an audited bench: so what the text shows is right for the present picture
abbrev pub ShowsAudit : List ℕ → Seen → List ℕ → Seen → Type 0
ShowsAudit shown old text new = IsAudited old × ShowsText shown old text new

-- the verdict is the bench's, and true of the document
abbrev pub JudgesAs : Seen → Seen → Verdict → Type 0
JudgesAs old new verdict =
    Tells old new verdict × (IsAudited new × IsVerdictOn old.history.document old.allowance verdict)

-- the text shows what was worked out of the document, and nothing changed but the engine's calls
abbrev pub ShowsFound : {X : Type 0} → (X → Type 0) → (X → List ℕ) → Seen → List ℕ → Seen → Type 0
ShowsFound {X} Is shown old text new = (found : X) × (Is found × ((text ≡ shown found) × IsAsBefore old new))

-- Memory ran out, and nothing changed but the engine's calls.
abbrev pub LacksMemory : Seen → List ℕ → Seen → Type 0
LacksMemory old text new = (text ≡ memory_line) × IsAsBefore old new

-- The commands for which memory may run out in this way. An edit, an undo and a redo have it among their refusals;
-- an allowance takes no memory, and neither does a cell or a picture that is refused for another reason.
abbrev pub IsShort : Command → Seen → List ℕ → Seen → Type 0
IsShort (command.Edit e) old text new = ⊥
IsShort command.Undo old text new = ⊥
IsShort command.Redo old text new = ⊥
IsShort command.Clues old text new = LacksMemory old text new
IsShort command.Map old text new = LacksMemory old text new
IsShort command.Verdict old text new = LacksMemory old text new
IsShort (command.Why row col colour) old text new =
    (has_cell old.history.document.rows row col ≡ true) × LacksMemory old text new
IsShort command.WritePpm old text new = LacksMemory old text new
IsShort command.WriteNon old text new = (is_two_colour old.history.document.rows ≡ true) × LacksMemory old text new
IsShort command.Report old text new = LacksMemory old text new
IsShort (command.Assess is_off) old text new = LacksMemory old text new
IsShort command.Path old text new = LacksMemory old text new
IsShort command.Certify old text new = LacksMemory old text new
IsShort (command.Allow allowance) old text new = ⊥

-- What a command says.
abbrev pub SaysTo : Seen → Command → List ℕ → Seen → Type 0
SaysTo old (command.Edit e) text new = SaysStroke (Edits e) old text new
SaysTo old command.Undo text new = SaysStroke Undoes old text new
SaysTo old command.Redo text new = SaysStroke Redoes old text new
SaysTo old command.Clues text new = ShowsAudit (clues_text old.clues) old text new
SaysTo old command.Map text new = ShowsAudit (map_text old.book.facts) old text new
SaysTo old command.Verdict text new = (verdict : Verdict) × (JudgesAs old new verdict × (text ≡ verdict_text verdict))
SaysTo old (command.Why row col colour) text new =
    ((has_cell old.history.document.rows row col ≡ false) × ShowsText (edit_line Place) old text new)
    ⊎ ((has_cell old.history.document.rows row col ≡ true)
    × ((why : Why) × (Explains old row col colour why × ShowsAudit (why_text why) old text new)))
SaysTo old command.WritePpm text new = ShowsText (ppm_text (content old.history.document)) old text new
SaysTo old command.WriteNon text new =
    ((is_two_colour old.history.document.rows ≡ true) × ShowsText (non_text_of old.history.document.rows) old text new)
    ⊎ ((is_two_colour old.history.document.rows ≡ false) × ShowsText (refused (codes "TwoColoursOnly")) old text new)
SaysTo old command.Report text new = (verdict : Verdict) × (JudgesAs old new verdict × (text ≡ report_on old verdict))
SaysTo old command.Certify text new =
    (found : Option Certificate)
    × (Certifies old.history.document found × ((text ≡ certified_text found) × (Learns old new × IsAudited new)))
SaysTo old (command.Assess is_off) text new =
    ShowsFound (IsAssessmentOf old.history.document (assess_allowance is_off old.allowance)) assessment_text old text new
SaysTo old command.Path text new = ShowsFound (IsPathOf old.history.document) path_shown old text new
SaysTo old (command.Allow allowance) text new = (text ≡ done_text) × (new ≡ record old { allowance = allowance })

-- The command is answered, or memory ran out; and the engine's calls do not fall.
unfoldable pub Replies : Command → Seen → List ℕ → Seen → Type 0
Replies c old text new = (SaysTo old c text new ⊎ IsShort c old text new) × (old.calls ≤ new.calls)

-- A line's request: a blank line is answered with nothing, and a line that is not a command with the name of its first
-- error.
unfoldable pub Says : Seen → Request → List ℕ → Seen → Type 0
Says old request.Nothing text new = ShowsText [] old text new
Says old (request.Refused fault) text new = ShowsText (refused (name_of fault)) old text new
Says old (request.Command c) text new = Replies c old text new

-- ---- lines one after the other

-- All lines are answered, and the texts follow one another.
abbrev pub SaysToAll : Texts → Seen → List ℕ → Seen → Type 0
SaysToAll [] old text new = (text ≡ []) × (new ≡ old)
SaysToAll (line ∷ lines) old text new =
    (between : Seen) × ((first : List ℕ) × ((rest : List ℕ) × ((text ≡ first ++ rest)
    × (Says old (request_of line) first between × SaysToAll lines between rest new))))

-- all lines are answered, and exactly their text was written
abbrev pub Answered : Texts → Option (List ℕ) → Option (List ℕ) → Seen → Seen → Type 0
Answered lines had has old new = (text : List ℕ) × (SaysToAll lines old text new × Appends had has text)

-- The first lines are answered completely. Of the text for the next one a prefix was written, and the state is the one
-- after that line.
pub record BrokenOff (lines : Texts) (had has : Option (List ℕ)) (old new : Seen) : Type 0 where
  pub before : Texts
  pub line : List ℕ
  pub behind : Texts
  pub cut : lines ≡ before ++ line ∷ behind
  pub between : Seen
  pub said : List ℕ
  pub text : List ℕ
  pub answered : SaysToAll before old said between
  pub says : Says between (request_of line) text new
  pub front : ℕ
  pub went_out : Appends had has (said ++ take front text)

-- ---- a whole session

-- The line that was being answered is one whose line feed had been
-- read, or the last one of an input that was read to its end.
abbrev pub IsBrokenOff : List ℕ → Option (List ℕ) → Option (List ℕ) → Option (List ℕ) → Seen → Seen → Type 0
IsBrokenOff read have held holds old new =
    BrokenOff (ended_lines_of read) held holds old new ⊎ (IsAtEnd have × BrokenOff (lines_of read) held holds old new)

-- The input was read to its end and all lines are answered. After a failed read, the lines whose line feed had been
-- read are answered. After a failed write, all lines before one are answered, and the bench has that one's effect.
unfoldable pub Runs : Option (List ℕ) → Option (List ℕ) → Option (List ℕ) → Option (List ℕ) → Seen → Seen
    → Result (Unit {0}) SessionFault → Type 0
Runs had have held holds old new (Ok done) =
    (read : List ℕ) × (Consumes had have read × (IsAtEnd have × Answered (lines_of read) held holds old new))
Runs had have held holds old new (Err fault.Read) =
    (read : List ℕ) × (Consumes had have read × Answered (ended_lines_of read) held holds old new)
Runs had have held holds old new (Err fault.Write) =
    (read : List ℕ) × (Consumes had have read × IsBrokenOff read have held holds old new)

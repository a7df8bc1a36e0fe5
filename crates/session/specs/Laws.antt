-- The laws of sessions: the effect of lines, in terms of a machine of a history and an allowance.
use Rattle.std.specs.Prelude.{◌≡◌, ◌≤◌, ℕ, List, [], ◌∷◌, Option, None, Some, Result, if◌then◌else◌}
use Rattle.std.specs.List.{concat}
use Rattle.edits.specs.declared.fault.EditFault.{EditFault}
use Rattle.live_audit.specs.Bench.{IsAudited, Seen}
use Rattle.live_audit.specs.Calls.{Machine, machine}
use Rattle.live_audit.specs.Stroke.{Edits, Redoes, Stroke, Undoes, after_stroke, stroke_fault}
use Rattle.command_text.specs.declared.command.Command.{Command}
use Rattle.command_text.specs.declared.command.Command.TheVariants as command
use Rattle.command_text.specs.declared.request.Request.{Request}
use Rattle.command_text.specs.declared.request.Request.TheVariants as request
use Rattle.command_text.specs.Lines.{request_of}
use Rattle.session.specs.Refusal.{memory_line}
use Rattle.command_text.specs.declared.session_fault.SessionFault.{SessionFault}
use Rattle.session.specs.Session.{Runs, Says, SaysToAll}
use Rattle.session.specs.Truth.{TellsTruth}
use Rattle.command_text.specs.Words.{Texts, is_word}

-- ---- the machine

-- a stroke changes the history where no error refuses it
abbrev pub after_lawful : Machine → Stroke → Option EditFault → Machine
after_lawful m stroke None = machine (after_stroke m.history stroke) m.allowance
after_lawful m stroke (Some fault) = m

abbrev pub after_asked : Machine → Stroke → Machine
after_asked m stroke = after_lawful m stroke (stroke_fault m.history stroke)

-- An edit, an undo and a redo change the history where no error refuses them, and `allow` sets the allowance. All other
-- commands leave the machine as it is.
abbrev pub after_command : Machine → Command → Machine
after_command m (command.Edit e) = after_asked m (Edits e)
after_command m command.Undo = after_asked m Undoes
after_command m command.Redo = after_asked m Redoes
after_command m command.Clues = m
after_command m command.Map = m
after_command m command.Verdict = m
after_command m (command.Why row col colour) = m
after_command m command.WritePpm = m
after_command m command.WriteNon = m
after_command m command.Report = m
after_command m command.Certify = m
after_command m (command.Assess is_off) = m
after_command m command.Path = m
after_command m (command.Allow allowance) = machine m.history allowance

abbrev pub after_request : Machine → Request → Machine
after_request m request.Nothing = m
after_request m (request.Refused fault) = m
after_request m (request.Command c) = after_command m c

-- a request whose answer is `refused: Memory` leaves the machine as it is
abbrev pub after_answer : Machine → Request → List ℕ → Machine
after_answer m asked text = if is_word text memory_line then m else after_request m asked

abbrev pub after_lines : Machine → Texts → Texts → Machine
after_lines m [] texts = m
after_lines m (line ∷ lines) [] = m
after_lines m (line ∷ lines) (text ∷ texts) = after_lines (after_answer m (request_of line) text) lines texts

-- ---- the law

-- an audited bench whose history and allowance are the machine's
pub record IsAt (m : Machine) (s : Seen) : Type 0 where
  pub audited : IsAudited s
  pub machine_is : machine s.history s.allowance ≡ m

-- the text is what an audited bench says to a line that leads it from one machine's history and allowance to the next's
pub record IsAnswer (m next : Machine) (line text : List ℕ) : Type 0 where
  pub old : Seen
  pub new : Seen
  pub before : IsAt m old
  pub says : Says old (request_of line) text new
  pub after : IsAt next new

-- each text is such an answer to its line, from the machine after the lines before it
abbrev pub AreAnswers : Machine → Texts → Texts → Type 0
AreAnswers m [] [] = Unit {0}
AreAnswers m [] (text ∷ texts) = ⊥
AreAnswers m (line ∷ lines) [] = ⊥
AreAnswers m (line ∷ lines) (text ∷ texts) =
    IsAnswer m (after_answer m (request_of line) text) line text
    × AreAnswers (after_answer m (request_of line) text) lines texts

-- The effect of lines: there is one text for each line, and it is one that the definitions allow. After them the bench
-- is audited, its history and allowance are the machine's after the lines whose text is not `refused: Memory`, and the
-- engine's calls did not fall.
pub record Follows (lines : Texts) (old : Seen) (text : List ℕ) (new : Seen) : Type 0 where
  pub texts : Texts
  pub text_is : text ≡ concat texts
  pub answers : AreAnswers (machine old.history old.allowance) lines texts
  pub last : IsAt (after_lines (machine old.history old.allowance) lines texts) new
  pub calls : old.calls ≤ new.calls

-- any lines have this effect on an audited bench
abbrev pub SessionsStayAudited : Type 0
SessionsStayAudited = (lines : Texts) (old new : Seen) (text : List ℕ) → IsAudited old
    → SaysToAll lines old text new → Follows lines old text new

-- What a session says on an audited bench is true of the bench's history and allowance.
abbrev pub SessionsAreTrue : Type 0
SessionsAreTrue = (had have held holds : Option (List ℕ)) (old new : Seen) (ended : Result (Unit {0}) SessionFault)
    → IsAudited old → Runs had have held holds old new ended
    → TellsTruth had have held holds (machine old.history old.allowance) (machine new.history new.allowance) ended

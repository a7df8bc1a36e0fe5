-- What a session writes: replies to all lines of its whole input, or a part of them where a write fails.
use Rattle.std.specs.Prelude.{◌≡◌, ◌⊎◌, ℕ, List, Option, Result, Ok, Err, take}
use Rattle.std.specs.List.{concat}
use Rattle.std.specs.Io.KnownBytes.{Appends, Consumes, IsAtEnd}
use Rattle.command_text.specs.declared.session_fault.SessionFault.{SessionFault}
use Rattle.command_text.specs.declared.session_fault.SessionFault.TheVariants as fault
use Rattle.command_text.specs.Lines.{ended_lines_of, lines_of}
use Rattle.command_text.specs.Words.{Texts}
use Rattle.live_audit.specs.Calls.{Machine}
use Rattle.session.specs.Truth.{AreReplies}

-- The text is one reply for each line, each true of the history and the allowance that the lines before it lead to.
pub record AnswersAll (lines : Texts) (text : List ℕ) (m last : Machine) : Type 0 where
  pub texts : Texts
  pub text_is : text ≡ concat texts
  pub replies : AreReplies m lines texts last

-- The whole input was read, and what was written is one reply for each of its lines.
pub record AnswersWhole (had have held holds : Option (List ℕ)) (m last : Machine) : Type 0 where
  pub read : List ℕ
  pub consumes : Consumes had have read
  pub at_end : IsAtEnd have
  pub texts : Texts
  pub replies : AreReplies m (lines_of read) texts last
  pub went_out : Appends held holds (concat texts)

-- what was written is one reply for each line whose line feed had been read
pub record AnswersEnded (had have held holds : Option (List ℕ)) (m last : Machine) : Type 0 where
  pub read : List ℕ
  pub consumes : Consumes had have read
  pub texts : Texts
  pub replies : AreReplies m (ended_lines_of read) texts last
  pub went_out : Appends held holds (concat texts)

-- What was written is a prefix of the replies to the first `count` lines.
pub record AnswersFront (lines : Texts) (had has : Option (List ℕ)) (m last : Machine) : Type 0 where
  pub count : ℕ
  pub texts : Texts
  pub replies : AreReplies m (take count lines) texts last
  pub front : ℕ
  pub went_out : Appends had has (take front (concat texts))

-- what was written is a prefix of replies to the lines that were read, or to those of them that a line feed ends
pub record AnswersRead (had have held holds : Option (List ℕ)) (m last : Machine) : Type 0 where
  pub read : List ℕ
  pub consumes : Consumes had have read
  pub lines : Texts
  pub are_read : (lines ≡ ended_lines_of read) ⊎ (lines ≡ lines_of read)
  pub front : AnswersFront lines held holds m last

-- How a session ends: it has answered its whole input; or, after a failed read, the lines whose line feed had been
-- read; or, after a failed write, a prefix of the right answers was written.
abbrev pub AnswersUntil : Option (List ℕ) → Option (List ℕ) → Option (List ℕ) → Option (List ℕ) → Machine → Machine
    → Result (Unit {0}) SessionFault → Type 0
AnswersUntil had have held holds m last (Ok done) = AnswersWhole had have held holds m last
AnswersUntil had have held holds m last (Err fault.Read) = AnswersEnded had have held holds m last
AnswersUntil had have held holds m last (Err fault.Write) = AnswersRead had have held holds m last

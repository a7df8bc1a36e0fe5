-- A session that is still running.
use Rattle.std.specs.Prelude.{◌≡◌, ℕ, true, false, List, ◌++◌, Option}
use Rattle.std.specs.Io.KnownBytes.{Appends, Consumes, IsAtEnd}
use Rattle.live_audit.specs.Bench.{Seen}
use Rattle.command_text.specs.declared.lines.Lines.{Lines}
use Rattle.command_text.specs.Lines.{MayCome, ended_lines_of, lines_of}
use Rattle.command_text.specs.Words.{Texts}
use Rattle.session.specs.Session.{SaysToAll}

-- The first lines are answered; the others are those of the bytes that wait and of what is yet to come.
pub record HasRun (had have held holds : Option (List ℕ)) (old new : Seen) (l : Lines) : Type 0 where
  pub front : Texts
  pub came : List ℕ
  pub read : Consumes had have came
  pub lines : (rest : List ℕ) → MayCome l rest → lines_of (came ++ rest) ≡ front ++ lines_of (l.inbox ++ rest)
  pub ended : l.ended ≡ false → (rest : List ℕ)
      → ended_lines_of (came ++ rest) ≡ front ++ ended_lines_of (l.inbox ++ rest)
  pub end : l.ended ≡ true → IsAtEnd have
  pub said : List ℕ
  pub answered : SaysToAll front old said new
  pub wrote : Appends held holds said

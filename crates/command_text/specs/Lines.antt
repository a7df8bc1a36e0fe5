-- The lines of a session's input, and what each asks for.
use Rattle.std.specs.Prelude.{◌≡◌, ℕ, ◌+◌, ◌-◌, ◌*◌, ◌<◌, ◌≤◌, Bool, true, false, List, [], ◌∷◌, ◌++◌, length, take}
use Rattle.std.specs.Prelude.{drop, Option, None, Some, Result, Ok, Err, filter, map, nat_lt, ◌==◌, if◌then◌else◌}
use Rattle.std.proofs.Common.{refl}
use Rattle.std.specs.List.{All, slice_split}
use Rattle.std.specs.Str.Lines.{strip_carriage_return}
use Rattle.std.specs.Io.KnownBytes.{Consumes, IsAtEnd}
use Rattle.command_text.specs.declared.command.Command.{Command}
use Rattle.command_text.specs.declared.fault.CommandFault.{CommandFault}
use Rattle.command_text.specs.declared.fault.CommandFault.TheVariants.{LongLine, UnknownWord}
use Rattle.command_text.specs.declared.request.Request.{Request}
use Rattle.command_text.specs.declared.request.Request.TheVariants as request
use Rattle.command_text.specs.declared.lines.Lines.{Lines}
use Rattle.command_text.specs.Parse.{IsBounded, commands, read_by}
use Rattle.command_text.specs.Words.{Texts, has_byte, words_of}

-- ---- lines

-- the byte ends a line
abbrev pub is_feed : ℕ → Bool
is_feed b = b == 10

-- the pieces between line feeds
abbrev pub pieces_of : List ℕ → Texts
pieces_of bytes = slice_split (λ b. b == 10) bytes

-- The lines of bytes that end with a line feed: all pieces but the last, each without a carriage return at its end.
unfoldable pub ended_lines_of : List ℕ → Texts
ended_lines_of bytes = map strip_carriage_return (take (length (pieces_of bytes) - 1) (pieces_of bytes))

-- The lines of an input that was read to its end: these, and the last piece, where it has a byte, without a carriage
-- return at its end.
unfoldable pub lines_of : List ℕ → Texts
lines_of bytes = ended_lines_of bytes
    ++ map strip_carriage_return (filter has_byte (drop (length (pieces_of bytes) - 1) (pieces_of bytes)))

-- none of the bytes is a line feed
abbrev pub NoFeed : List ℕ → Type 0
NoFeed bytes = All (λ b. is_feed b ≡ false) bytes

-- ---- what a line asks for

abbrev pub request_by : Result Command CommandFault → Request
request_by (Ok command) = request.Command command
request_by (Err fault) = request.Refused fault

-- without a word nothing is asked for; otherwise the command that the first word begins
abbrev pub request_of_words : Texts → Request
request_of_words [] = request.Nothing
request_of_words (first ∷ words) = request_by (read_by commands (first ∷ words))

-- what a line asks for: it may have at most 200 bytes
unfoldable pub request_of : List ℕ → Request
request_of line = if nat_lt 200 (length line) then request.Refused LongLine else request_of_words (words_of line)

abbrev pub command_in : Request → Result Command CommandFault
command_in request.Nothing = Err UnknownWord
command_in (request.Command c) = Ok c
command_in (request.Refused fault) = Err fault

-- The command of a line without its end, or the first error. A line without a word, which a session passes over, is
-- UnknownWord.
abbrev pub command_of : List ℕ → Result Command CommandFault
command_of line = command_in (request_of line)

-- the command that is asked for, if one is, has a colour and an allowance that are lawful
abbrev pub AsksBounded : Request → Type 0
AsksBounded request.Nothing = Unit {0}
AsksBounded (request.Command c) = IsBounded c
AsksBounded (request.Refused fault) = Unit {0}

-- ---- what a call of `Lines::next` leaves

-- what may come after the bytes that were read: nothing, once the end was reached
abbrev pub MayCome : Lines → List ℕ → Type 0
MayCome l rest = l.ended ≡ true → rest ≡ []

-- The bytes that came in a call. Take the bytes that waited before, those that came, and whatever may come after them:
-- their first lines are `front`, and the others are those of the bytes that wait now and of what comes. Before the end,
-- the same holds for lines with a line feed. A call notes the end only where it was reached; after it nothing comes.
pub record Cuts (had have : Option (List ℕ)) (old new : Lines) (front : Texts) : Type 0 where
  pub came : List ℕ
  pub read : Consumes had have came
  pub lines : (rest : List ℕ) → MayCome new rest
      → lines_of (old.inbox ++ (came ++ rest)) ≡ front ++ lines_of (new.inbox ++ rest)
  pub ended : new.ended ≡ false → (rest : List ℕ)
      → ended_lines_of (old.inbox ++ (came ++ rest)) ≡ front ++ ended_lines_of (new.inbox ++ rest)
  pub end : (old.ended ≡ true → IsAtEnd had) → new.ended ≡ true → IsAtEnd have
  pub behind : old.ended ≡ true → (came ≡ []) × (new.ended ≡ true)

-- the next line, and what it asks for
pub record CutsOne (had have : Option (List ℕ)) (old new : Lines) (asked : Request) : Type 0 where
  pub line : List ℕ
  pub cuts : Cuts had have old new (line ∷ [])
  pub asks : asked ≡ request_of line

-- no line is left, and the end was reached
pub record CutsNone (had have : Option (List ℕ)) (old new : Lines) : Type 0 where
  pub cuts : Cuts had have old new []
  pub waiting : new.inbox ≡ []
  pub met : new.ended ≡ true

-- a read failed before the end was reached, and the bytes that waited and those that came have no line feed
pub record BreaksOff (had have : Option (List ℕ)) (old : Lines) : Type 0 where
  pub came : List ℕ
  pub read : Consumes had have came
  pub unfinished : ended_lines_of (old.inbox ++ came) ≡ []
  pub unended : old.ended ≡ false

-- what `Lines::next` answers
abbrev pub Hands : Option (List ℕ) → Option (List ℕ) → Lines → Lines → {E : Type 0} → Result (Option Request) E → Type 0
Hands had have old new (Ok (Some asked)) = CutsOne had have old new asked
Hands had have old new (Ok None) = CutsNone had have old new
Hands had have old new (Err e) = BreaksOff had have old

-- ---- the steps of a call

-- how many steps a call may take: one for each byte that waits, and 4097 for each read that may be made
abbrev pub steps_left : Lines → ℕ
steps_left l = 4097 * (1048576 - l.reads) + length l.inbox

-- Bytes wait; or none do, and the end was reached.
pub record Waits (had have : Option (List ℕ)) (old new : Lines) (more : Bool) : Type 0 where
  pub came : List ℕ
  pub read : Consumes had have came
  pub waiting : new.inbox ≡ old.inbox ++ came
  pub end : (old.ended ≡ true → IsAtEnd had) → new.ended ≡ true → IsAtEnd have
  pub behind : old.ended ≡ true → (came ≡ []) × (new.ended ≡ true)
  pub steps : steps_left new ≤ steps_left old
  pub some : more ≡ true → 0 < length new.inbox
  pub none : more ≡ false → (new.inbox ≡ []) × (new.ended ≡ true)

-- The line gets the bytes up to a line feed, which is taken too; or all bytes that wait, where they have no line feed.
abbrev pub TakesPiece : Lines → Lines → List ℕ → List ℕ → Bool → Type 0
TakesPiece old new had draft true =
    (piece : List ℕ) × ((old.inbox ≡ piece ++ 10 ∷ new.inbox) × (NoFeed piece × (draft ≡ take 202 (had ++ piece))))
TakesPiece old new had draft false = (new.inbox ≡ []) × (NoFeed old.inbox × (draft ≡ take 202 (had ++ old.inbox)))

-- the bytes of a line so far: they waited or came, none of them is a line feed, and the first 202 are kept
pub record Drafts (had have : Option (List ℕ)) (old now : Lines) (draft : List ℕ) : Type 0 where
  pub came : List ℕ
  pub read : Consumes had have came
  pub raw : List ℕ
  pub cut : old.inbox ++ came ≡ raw ++ now.inbox
  pub no_feed : NoFeed raw
  pub kept : draft ≡ take 202 raw
  pub end : (old.ended ≡ true → IsAtEnd had) → now.ended ≡ true → IsAtEnd have
  pub behind : old.ended ≡ true → (came ≡ []) × (now.ended ≡ true)
  pub steps : steps_left now + length draft ≤ steps_left old

-- ---- no bytes

pub nothing_has_no_lines : lines_of [] ≡ []
unfolding lines_of ended_lines_of
nothing_has_no_lines = refl

-- What a caller sees of a bench, and what holds of it after every call.
use Rattle.std.specs.Prelude.{◌≡◌, ℕ, ◌+◌, ◌<◌, ◌≤◌, ◌↔◌, List, [], length, Option, None}
use Rattle.line_facts.specs.Masks.{Masks}
use Rattle.picture.specs.declared.picture.TheConstants.{MAX_SIDE}
use Rattle.picture.specs.CellSet.{HasCell, IsCellSet}
use Rattle.picture.specs.Rows.{cell_at}
use Rattle.clues.specs.ClueBook.{Clues}
use Rattle.justify.specs.Book.{Account}
use Rattle.live_audit.specs.Audit.{IsAnew, IsAuditOf, nothing_done}
use Rattle.second_search.specs.declared.keeper.KeptPart.{KeptPart}
use Rattle.second_search.specs.JudgedParts.{AreTrue, Starts, parts_of}
use Rattle.second_search.specs.Parts.{AreParts, Board, board}
use Rattle.edits.specs.Design.{Design}
use Rattle.edits.specs.declared.studio.TheConstants.{MAX_DEPTH}
use Rattle.edits.specs.History.{History, history}
use Rattle.live_audit.specs.declared.work.Work.{Work}

-- The state of a bench: its history, clues and book, what is known of the parts of the map, the allowance, and the
-- counts of work and of the engine's calls. The map is the facts of the book, and the allowance is how many splits
-- the search of a part may make.
pub record Seen : Type 0 where
  pub history : History
  pub clues : Clues
  pub book : Account
  pub kept : List KeptPart
  pub allowance : Option ℕ
  pub work : Work
  pub calls : ℕ

abbrev pub seen : History → Clues → Account → List KeptPart → Option ℕ → Work → ℕ → Seen
seen history clues book kept allowance work calls =
    record {
      history = history;
      clues = clues;
      book = book;
      kept = kept;
      allowance = allowance;
      work = work;
      calls = calls;
    }

-- its clues, its map and its picture
abbrev pub board_seen : Seen → Board
board_seen s = board s.clues s.book.facts s.history.document.rows

-- the cell is a given
abbrev pub IsGiven : Design → ℕ → ℕ → Type 0
IsGiven d row col = cell_at d.marks row col ≡ 1

-- a set of exactly the cells that are givens of a document
pub record AreGivenCells (d : Design) (givens : List ℕ) : Type 0 where
  pub set : IsCellSet givens
  pub are : (row col : ℕ) → HasCell givens row col ↔ IsGiven d row col

-- The parts kept are those of the map, and what is known about other fillings of each is true of the document.
pub record AreAnswersOf (d : Design) (clues : Clues) (facts : Masks) (kept : List KeptPart) : Type 0 where
  pub parts : AreParts facts (parts_of kept)
  pub true_answers : (givens : List ℕ) → AreGivenCells d givens → AreTrue clues givens d.rows kept

-- what is seen is an audit of the present document, and what is kept of its parts is true
pub record IsAudited (s : Seen) : Type 0 where
  pub audit : IsAuditOf s.history.document s.clues s.book
  pub answers : AreAnswersOf s.history.document s.clues s.book.facts s.kept

-- The depth of a history is 1 to 1,000, and there are at most that many edits to undo and redo together. So there is
-- room for a new edit, which can then be undone.
pub record FitsDepth (h : History) : Type 0 where
  pub some : 0 < h.depth
  pub most : h.depth ≤ MAX_DEPTH
  pub few : length h.past + length h.future ≤ h.depth

-- what a bench keeps: it is audited, its history fits its depth, and its engine takes each line of a picture
pub record IsBench (longest : ℕ) (s : Seen) : Type 0 where
  pub audited : IsAudited s
  pub history : FitsDepth s.history
  pub long : MAX_SIDE ≤ longest

-- A bench that begins with a document, after `calls` calls of its engine: no history, a book made from nothing, for
-- which all lines waited, nothing known of the parts, no allowance, and nothing searched.
pub record Begins (d : Design) (depth calls : ℕ) (s : Seen) : Type 0 where
  pub history : s.history ≡ history d [] [] depth
  pub book : IsAnew s.book.base s.book nothing_done s.work.edit calls s.calls
  pub kept : Starts s.book.facts s.kept
  pub allowance : s.allowance ≡ None
  pub work : s.work ≡ record { edit = s.work.edit; search = nothing_done; parts = 0; splits = 0 }

-- The path of a run: its looks that excluded something, in order, each with what it needs.
use Rattle.std.specs.Prelude.{◌≡◌, ◌↔◌, ℕ, ◌-◌, ◌==◌, Bool, true, false, List, [], ◌∷◌, ◌++◌, IsTrue, count_ones}
use Rattle.std.specs.List.{sum_by}
use Rattle.picture.specs.declared.line_id.LineId.{LineId}
use Rattle.picture.specs.Rows.{line_of}
use Rattle.clues.specs.declared.block.Block.{Block}
use Rattle.clues.specs.ClueBook.{Clues, clue_at}
use Rattle.justify.specs.declared.premise.Premise.{Premise}
use Rattle.grade.specs.declared.look.Fall.{Fall}
use Rattle.grade.specs.Looks.{Look, exclusions, falls_between}
use Rattle.grade.specs.Needs.{AreNeeded, Stand}

-- what a look made: at which line, in which round, how many exclusions, and the cells that fell; whether all blocks of
-- the line stood before it; and its premises
pub record Made : Type 0 where
  pub line : LineId
  pub round : ℕ
  pub excluded : ℕ
  pub falls : List Fall
  pub stands : Bool
  pub premises : List Premise

-- what a look at a line in a round made, by the line's clue and the masks of its cells before and after
pub record Makes (clue : List Block) (line : LineId) (round : ℕ) (before after : List ℕ) (made : Made) : Type 0 where
  pub same_line : made.line ≡ line
  pub same_round : made.round ≡ round
  pub count : made.excluded ≡ sum_by count_ones before - sum_by count_ones after
  pub fallen : made.falls ≡ falls_between before after
  pub stood : IsTrue made.stands ↔ Stand clue before
  pub needed : AreNeeded clue before after made.premises

-- what a look of a run made
abbrev pub IsMade : Clues → Look → Made → Type 0
IsMade clues look made = Makes (clue_at clues look.line) look.line look.round (line_of look.before look.line)
    (line_of look.after look.line) made

-- a path that goes on with a look, or that stays as it was where the look excluded nothing
abbrev pub GoesOn : Bool → Clues → Look → (List Made → Type 0) → List Made → Type 0
GoesOn true clues look IsBefore path = IsBefore path
GoesOn false clues look IsBefore path =
    (front : List Made) × ((last : Made) × (IsBefore front × (IsMade clues look last × (path ≡ front ++ last ∷ []))))

-- the path of the looks of a run, which are given the newest first: in the path the first comes first
abbrev pub IsPath : Clues → List Look → List Made → Type 0
IsPath clues [] path = path ≡ []
IsPath clues (look ∷ earlier) path = GoesOn (exclusions look == 0) clues look (IsPath clues earlier) path

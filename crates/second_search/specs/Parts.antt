-- Open cells, the parts that they form, and other fillings of a part.
use Rattle.std.specs.Prelude.{◌≡◌, ℕ, ◌^◌, ◌<◌, ◌⊎◌, ◌↔◌, ◌==◌, Bool, not, if◌then◌else◌, List, [], ◌∷◌, length, map}
use Rattle.std.specs.Prelude.{slice_index, slice_index_or, bit_and, refl}
use Rattle.std.specs.List.{range_with_len}
use Rattle.line_facts.specs.FactSets.{Leaves}
use Rattle.line_facts.specs.Masks.{Masks}
use Rattle.picture.specs.declared.line_id.LineId.{LineId}
use Rattle.picture.specs.CellSet.{IsCellSet, HasCell}
use Rattle.picture.specs.Picture.{IsPicture}
use Rattle.picture.specs.Rows.{width_of, cell_at, line_of, HasLine, Rows}
use Rattle.clues.specs.ClueBook.{Clues, clue_at, clues_of}
use Rattle.clues.specs.Laws.{IsOnLine}
use Rattle.clues.specs.Solution.{IsOther}
use Rattle.second_search.specs.Other.{AreSound}

-- an open cell: more than one colour is left there
abbrev pub IsOpenCell : Masks → ℕ → ℕ → Type 0
IsOpenCell facts row col = (j : ℕ) × (k : ℕ) × Leaves facts row col j × Leaves facts row col k × (j ≡ k → ⊥)

-- a chain of open cells joins a cell to another, each sharing a row or a column with the next
pub data IsChained (facts : Masks) (row col : ℕ) : ℕ → ℕ → Type 0 where
  begins : IsOpenCell facts row col → IsChained facts row col row col
  goes_on : (r c s d : ℕ) → IsChained facts row col r c → (r ≡ s) ⊎ (c ≡ d) → IsOpenCell facts s d
      → IsChained facts row col s d

-- a cell comes before another in row order
abbrev pub IsBefore : ℕ → ℕ → ℕ → ℕ → Type 0
IsBefore row col r c = (row < r) ⊎ ((row ≡ r) × (col < c))

-- a part with its first cell in row order: the cells that are chained to an open cell, none of which comes before it
pub record IsPartFrom (facts : Masks) (cells : List ℕ) (row col : ℕ) : Type 0 where
  pub set : IsCellSet cells
  pub is_open : IsOpenCell facts row col
  pub members : (r c : ℕ) → HasCell cells r c ↔ IsChained facts row col r c
  pub first : (r c : ℕ) → HasCell cells r c → IsBefore r c row col → ⊥

-- a part: a connected component of open cells
pub record IsPart (facts : Masks) (cells : List ℕ) : Type 0 where
  pub row : ℕ
  pub col : ℕ
  pub from : IsPartFrom facts cells row col

abbrev pub part_at : List (List ℕ) → ℕ → List ℕ
part_at parts i = slice_index_or parts i []

-- all parts, in the order of their first cells: each open cell is in one of them
pub record AreParts (facts : Masks) (parts : List (List ℕ)) : Type 0 where
  pub each : (i : ℕ) → i < length parts → IsPart facts (part_at parts i)
  pub ordered : (i j row col r c : ℕ) → i < j → j < length parts → IsPartFrom facts (part_at parts i) row col
      → IsPartFrom facts (part_at parts j) r c → IsBefore row col r c
  pub all : (row col : ℕ) → IsOpenCell facts row col
      → (i : ℕ) × ((i < length parts) × HasCell (part_at parts i) row col)

-- a line that goes through one of the cells
pub record GoesThrough (line : LineId) (cells : List ℕ) : Type 0 where
  pub row : ℕ
  pub col : ℕ
  pub has : HasCell cells row col
  pub on_line : IsOnLine line row col

-- ---- one grid on a part, another elsewhere

abbrev pub is_in : List ℕ → ℕ → ℕ → Bool
is_in cells row col = not (bit_and (slice_index cells row) (2 ^ col) == 0)

-- the cell of one grid on a part, of the other elsewhere
abbrev pub picked_cell : List ℕ → Rows → Rows → ℕ → ℕ → ℕ
picked_cell cells one other row col = if is_in cells row col then cell_at one row col else cell_at other row col

abbrev pub picked_row : List ℕ → Rows → Rows → ℕ → List ℕ
picked_row cells one other row =
    map (λ (col : ℕ). picked_cell cells one other row col) (range_with_len 0 (width_of other))

-- one grid on a part, another of its size elsewhere: from two pictures a picture, from two fact sets a fact set
unfoldable pub picked : List ℕ → Rows → Rows → Rows
picked cells one other = map (λ (row : ℕ). picked_row cells one other row) (range_with_len 0 (length other))

-- ---- other fillings

-- another filling of a part: another picture that differs from the picture in cells of that part alone
pub record IsOtherFilling (clues : Clues) (givens : List ℕ) (picture : Rows) (cells : List ℕ)
    (other : Rows) : Type 0 where
  pub is_other : IsOther clues (HasCell givens) picture other
  pub elsewhere : (row col : ℕ) → (HasCell cells row col → ⊥) → cell_at other row col ≡ cell_at picture row col

-- ---- scenes

-- clues and a picture that has them, and facts that a search for another picture may start from
pub record IsScene (clues : Clues) (givens : List ℕ) (facts : Masks) (picture : Rows) : Type 0 where
  pub is_picture : IsPicture picture
  pub has_clues : clues_of picture ≡ clues
  pub sound : AreSound clues givens picture facts

-- clues, facts and a picture
pub record Board : Type 0 where
  pub clues : Clues
  pub facts : Masks
  pub picture : Rows

abbrev pub board : Clues → Masks → Rows → Board
board clues facts picture = record { clues = clues; facts = facts; picture = picture }

-- on two boards a line has, under the same name, the same clue, the same colours left and the same cells of the
-- picture, and so the same length
pub record IsSameLine (old new : Board) (line : LineId) : Type 0 where
  pub before : HasLine old.picture line
  pub after : HasLine new.picture line
  pub clue : clue_at old.clues line ≡ clue_at new.clues line
  pub left : line_of old.facts line ≡ line_of new.facts line
  pub shown : line_of old.picture line ≡ line_of new.picture line

-- each line through a part is the same on two boards
abbrev pub KeepsLines : Board → Board → List ℕ → Type 0
KeepsLines old new cells = (line : LineId) → GoesThrough line cells → IsSameLine old new line

-- ---- worked by hand

-- of two 3 by 3 grids, the first on the 2 by 2 square in the upper left corner, the second elsewhere
worked_corners : picked (3 ∷ 3 ∷ 0 ∷ []) ((1 ∷ 0 ∷ 7 ∷ []) ∷ (0 ∷ 1 ∷ 7 ∷ []) ∷ (7 ∷ 7 ∷ 7 ∷ []) ∷ []) ((0 ∷ 1 ∷ 0 ∷ [])
    ∷ (1 ∷ 0 ∷ 2 ∷ []) ∷ (0 ∷ 2 ∷ 2 ∷ []) ∷ []) ≡ (1 ∷ 0 ∷ 0 ∷ []) ∷ (0 ∷ 1 ∷ 2 ∷ []) ∷ (0 ∷ 2 ∷ 2 ∷ []) ∷ []
unfolding picked
worked_corners = refl

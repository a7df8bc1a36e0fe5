-- Laws of facts that a search may start from, and of parts.
use Rattle.std.specs.Prelude.{◌≡◌, ℕ, ◌<◌, ◌↔◌, Bool, List, length, Option, Some}
use Rattle.picture.specs.declared.line_id.LineId.{LineId}
use Rattle.picture.specs.CellSet.{HasCell, PutsCell}
use Rattle.picture.specs.Picture.{IsPicture}
use Rattle.picture.specs.Rows.{width_of, cell_at, Rows}
use Rattle.clues.specs.ClueBook.{Clues}
use Rattle.clues.specs.Laws.{IsOnLine}
use Rattle.clues.specs.Solution.{IsOther}
use Rattle.line_facts.specs.FactSets.{IsBase, IsLeast, SameShape, nothing_excluded, with_given}
use Rattle.line_facts.specs.Masks.{IsOnly, Masks}
use Rattle.fixpoint.specs.Fillings.{Fills, only}
use Rattle.second_search.specs.declared.counting.Ending.{Ending}
use Rattle.second_search.specs.declared.counting.Ending.TheVariants.{BrokenOff, Found, Nothing}
use Rattle.second_search.specs.declared.ladder.Decided.TheVariants.{Tree}
use Rattle.second_search.specs.declared.tree_lines.Lines.{Lines as TreeLines}
use Rattle.second_search.specs.declared.keeper.KeptPart.{KeptPart}
use Rattle.second_search.specs.JudgedParts.{Judges}
use Rattle.second_search.specs.Other.{AreSound}
use Rattle.second_search.specs.FixedOrder.{EndsPast, alone}
use Rattle.second_search.specs.Trees.{Decides}
use Rattle.second_search.specs.Parts.{AreParts, GoesThrough, IsOpenCell, IsOtherFilling, IsPart, IsScene, KeepsLines}
use Rattle.second_search.specs.Parts.{board}
use Rattle.second_search.specs.Parts.{part_at, picked}
use Rattle.second_search.specs.Verdict.{Undecided}

-- Facts that exclude nothing are sound where there is no given, and so is the base of any givens. They stay sound with
-- one more given, when only the picture's colour is left in its cell, and when they are closed for the clues.
pub record SoundFacts : Type 0 where
  pub none : (clues : Clues) (givens : List ℕ) (picture : Rows) → IsPicture picture
      → ((row col : ℕ) → HasCell givens row col → ⊥)
      → AreSound clues givens picture (nothing_excluded (length picture) (width_of picture))
  pub base : (clues : Clues) (givens : List ℕ) (picture : Rows) (base : Masks) → IsPicture picture
      → IsBase givens picture base → AreSound clues givens picture base
  pub one_more : (clues : Clues) (givens more : List ℕ) (picture : Rows) (facts : Masks) (row col : ℕ)
      → IsPicture picture → row < length picture → col < width_of picture → PutsCell givens more row col
      → AreSound clues givens picture facts → AreSound clues more picture (with_given picture facts row col)
  pub settled : (clues : Clues) (givens : List ℕ) (picture : Rows) (facts settled : Masks) → IsLeast clues facts settled
      → AreSound clues givens picture facts → AreSound clues givens picture settled

-- ---- parts

-- All parts of facts, in the order of their first cells, are one list.
abbrev pub PartsAreOneList : Type 0
PartsAreOneList = (facts : Masks) (parts : List (List ℕ)) (others : Masks) → AreParts facts parts
    → AreParts facts others → parts ≡ others

-- Two parts that share a cell are the same, and a part has all open cells of each line through one of its cells. Its
-- cells are open and lie in the picture; in a cell of the picture that is not open only the picture's colour is left.
pub record PartsAreApart : Type 0 where
  pub one : (facts : Masks) (parts : List (List ℕ)) → AreParts facts parts → (i j row col : ℕ) → i < length parts
      → j < length parts → HasCell (part_at parts i) row col → HasCell (part_at parts j) row col → i ≡ j
  pub whole_lines : (facts : Masks) (cells : List ℕ) (line : LineId) (row col : ℕ) → IsPart facts cells
      → GoesThrough line cells → IsOnLine line row col → IsOpenCell facts row col → HasCell cells row col
  pub open_cells : (facts : Masks) (cells : List ℕ) (row col : ℕ) → IsPart facts cells → HasCell cells row col
      → IsOpenCell facts row col
  pub inside : (clues : Clues) (givens : List ℕ) (facts : Masks) (picture : Rows) (row col : ℕ)
      → IsScene clues givens facts picture → IsOpenCell facts row col
      → (row < length picture) × (col < width_of picture)
  pub settled : (clues : Clues) (givens : List ℕ) (facts : Masks) (picture : Rows) (row col : ℕ)
      → IsScene clues givens facts picture → row < length picture → col < width_of picture
      → (IsOpenCell facts row col → ⊥) → IsOnly (cell_at facts row col) (cell_at picture row col)

-- Another picture exists exactly where some part has another filling. The other picture's colours on a part where
-- it differs, with the picture's elsewhere, are another filling of that part: each line is one of the two
-- pictures'.
pub record PartsDecide : Type 0 where
  pub one_part : (clues : Clues) (givens : List ℕ) (facts : Masks) (picture other : Rows) (cells : List ℕ) (row col : ℕ)
      → IsScene clues givens facts picture → IsPart facts cells → IsOther clues (HasCell givens) picture other
      → HasCell cells row col → (cell_at other row col ≡ cell_at picture row col → ⊥)
      → IsOtherFilling clues givens picture cells (picked cells other picture)
  pub some_part : (clues : Clues) (givens : List ℕ) (facts : Masks) (picture : Rows) (parts : List (List ℕ))
      → IsScene clues givens facts picture → AreParts facts parts
      → ((other : Rows) × IsOther clues (HasCell givens) picture other) ↔ ((i : ℕ)
      × ((i < length parts) × ((other : Rows) × IsOtherFilling clues givens picture (part_at parts i) other)))

-- The other fillings of a part are the other pictures that fill the facts on it with the picture's colours elsewhere.
abbrev pub FillingsAreOfFacts : Type 0
FillingsAreOfFacts = (clues : Clues) (givens : List ℕ) (facts : Masks) (picture other : Rows) (cells : List ℕ)
    → IsScene clues givens facts picture
    → IsOtherFilling clues givens picture cells other
    ↔ (Fills clues (picked cells facts (only picture)) other × (other ≡ picture → ⊥))

-- A part whose lines are the same in two scenes is a part in both, and has another filling in the one
-- exactly where it has one in the other: its colours on the part, with the other scene's picture elsewhere.
pub record FillingsStay : Type 0 where
  pub part : (clues clues_after : Clues) (facts : Masks) (picture : Rows) (facts_after : Masks) (picture_after : Rows)
      (cells : List ℕ) → KeepsLines (board clues facts picture) (board clues_after facts_after picture_after) cells
      → IsPart facts cells → IsPart facts_after cells
  pub carried : (clues clues_after : Clues) (givens givens_after : List ℕ) (facts : Masks) (picture : Rows)
      (facts_after : Masks) (picture_after other : Rows) (cells : List ℕ) → IsScene clues givens facts picture
      → IsScene clues_after givens_after facts_after picture_after
      → KeepsLines (board clues facts picture) (board clues_after facts_after picture_after) cells → IsPart facts cells
      → IsOtherFilling clues givens picture cells other
      → IsOtherFilling clues_after givens_after picture_after cells (picked cells other picture_after)
  pub back : (clues clues_after : Clues) (facts : Masks) (picture : Rows) (facts_after : Masks) (picture_after : Rows)
      (cells : List ℕ) → KeepsLines (board clues facts picture) (board clues_after facts_after picture_after) cells
      → KeepsLines (board clues_after facts_after picture_after) (board clues facts picture) cells
  pub none : (clues clues_after : Clues) (givens givens_after : List ℕ) (facts : Masks) (picture : Rows)
      (facts_after : Masks) (picture_after : Rows) (cells : List ℕ) → IsScene clues givens facts picture
      → IsScene clues_after givens_after facts_after picture_after
      → KeepsLines (board clues facts picture) (board clues_after facts_after picture_after) cells → IsPart facts cells
      → ((other : Rows) → IsOtherFilling clues givens picture cells other → ⊥) → (other : Rows)
      → IsOtherFilling clues_after givens_after picture_after cells other → ⊥

-- ---- judging

-- A picture is left undecided only where an allowance is set.
abbrev pub AllowancesBreakOff : Type 0
AllowancesBreakOff = (clues : Clues) (facts : Masks) (picture : Rows) (allowance : Option ℕ) (old new : List KeptPart)
    (searched splits : ℕ)
    → Judges (board clues facts picture) allowance old new Undecided searched splits
    → (most : ℕ) × (allowance ≡ Some most)

-- ---- what is answered is true

-- nothing but the picture fills a part, or this is another filling of it
abbrev pub AnswersPart : Clues → List ℕ → Rows → List ℕ → Ending → Type 0
AnswersPart clues givens picture cells Nothing = (other : Rows) → IsOtherFilling clues givens picture cells other → ⊥
AnswersPart clues givens picture cells (Found other) = IsOtherFilling clues givens picture cells other
AnswersPart clues givens picture cells BrokenOff = ⊥

-- What is decided of a part of a scene is true, within any bounds.
abbrev pub EndingsAreTrue : Type 0
EndingsAreTrue = (clues : Clues) (givens : List ℕ) (facts : Masks) (picture : Rows) → IsScene clues givens facts picture
    → (cells : List ℕ) (most : ℕ) (ending : Ending) (n : ℕ) → EndsPast clues picture
    (alone cells facts picture) most ending n → AnswersPart clues givens picture cells ending

-- Whatever fills the facts that a tree begins with is the known picture.
abbrev pub TreesAreWhole : Type 0
TreesAreWhole = (clues : Clues) (known : Rows) (facts : Masks) (keeps : Bool) (lines : TreeLines)
    → SameShape known facts → Decides clues known facts keeps (Tree lines)
    → (other : Rows) → Fills clues facts other → (other ≡ known → ⊥) → ⊥

-- Laws of fitting and forcing.
use Rattle.std.specs.Prelude.{◌≡◌, ℕ, ◌+◌, ◌-◌, ◌^◌, ◌<◌, ◌↔◌, List, length}
use Rattle.line_facts.specs.Masks.{Masks}
use Rattle.picture.specs.declared.line_id.LineId.{LineId}
use Rattle.picture.specs.CellSet.{HasCell, PutsCell}
use Rattle.picture.specs.Picture.{IsPicture}
use Rattle.picture.specs.Rows.{width_of, cell_at, line_of, Rows}
use Rattle.clues.specs.declared.block.Block.{Block}
use Rattle.clues.specs.ClueBook.{Clues}
use Rattle.line_facts.specs.declared.line_engine.Outcome.{Outcome}
use Rattle.line_facts.specs.declared.line_engine.Outcome.TheVariants.{Narrowed}
use Rattle.line_facts.specs.declared.meter.Meter.{Meter}
use Rattle.line_facts.specs.Counts.{Counts}
use Rattle.line_facts.specs.Fits.{Fits, CanFit, CanHave, Forces, IsTighter}
use Rattle.line_facts.specs.FactSets.{Gains, IsBase, IsClosedLine, IsWithin, IsLeast, nothing_excluded, with_given}
use Rattle.line_facts.specs.NarrowedLine.{Narrows}

-- with fewer colours left no more lists fit and no more is possible, and so no less is forced
pub record ForcingIsMonotone : Type 0 where
  pub fitting : (clue : List Block) (left fewer : List ℕ) → IsTighter left fewer → CanFit clue fewer → CanFit clue left
  pub possible : (clue : List Block) (left fewer : List ℕ) → IsTighter left fewer → (i k : ℕ) → CanHave clue fewer i k
      → CanHave clue left i k
  pub forced : (clue : List Block) (left fewer : List ℕ) → IsTighter left fewer → (i k : ℕ) → Forces clue left i k
      → Forces clue fewer i k
  pub lines : (few many : Masks) → IsWithin few many → (line : LineId)
      → IsTighter (line_of few line) (line_of many line)

-- narrowing what was narrowed changes nothing
abbrev pub NarrowingTwiceIsOnce : Type 0
NarrowingTwiceIsOnce = (clue : List Block) (left out again : List ℕ) (first second : Outcome)
    → Narrows clue left first out → Narrows clue out second again → (again ≡ out) × (second ≡ first)

-- a list that fits still fits when the line has been narrowed, so its colours are never excluded
abbrev pub FittingListStays : Type 0
FittingListStays = (clue : List Block) (left line out : List ℕ) (outcome : Outcome) → Fits clue left line
    → Narrows clue left outcome out → (outcome ≡ Narrowed) × Fits clue out line

-- what a line forces depends on its own masks and its clue alone
abbrev pub OneLineDecides : Type 0
OneLineDecides = (clue : List Block) (left out other : List ℕ) (first second : Outcome) → Narrows clue left first out
    → Narrows clue left second other → (out ≡ other) × (first ≡ second)

-- there is one least closed set of facts
abbrev pub LeastIsUnique : Type 0
LeastIsUnique = (clues : Clues) (base : Masks) (one : List (List ℕ)) (other : Rows) → IsLeast clues base one
    → IsLeast clues base other → one ≡ other

-- work that is done in two parts is counted as one
abbrev pub CountsAdd : Type 0
CountsAdd = (e t f u : ℕ) (start between end : Meter) (p q r : ℕ) → Counts e t start between p q
    → Counts f u between end q r → Counts (e + f) (t + u) start end p r

-- Forcing a line adds exclusions, stays inside all facts that hold the old ones and are closed on the line, and leaves
-- the line closed.
pub record ForcingClosesALine : Type 0 where
  pub grows : (clue : List Block) (line : LineId) (old new : Masks) (outcome : Outcome)
      → Gains clue line old new outcome → IsWithin old new
  pub stays_inside : (clue : List Block) (line : LineId) (old new : Masks) (outcome : Outcome)
      → Gains clue line old new outcome → (others : Masks) → IsWithin old others
      → IsClosedLine clue (line_of others line) → IsWithin new others
  pub closes : (clue : List Block) (line : LineId) (old new : Masks) (outcome : Outcome)
      → Gains clue line old new outcome → IsClosedLine clue (line_of new line)

-- The base of givens, cell by cell: in each given the picture's colour alone is left, and elsewhere all sixteen are. It
-- depends on the cells of a set alone; without givens it excludes nothing, and one given more changes its cell alone.
pub record BaseIsCellByCell : Type 0 where
  pub given : (givens : List ℕ) (picture : Rows) (facts : Masks) → IsBase givens picture facts → (row col : ℕ)
      → row < length picture → col < width_of picture → cell_at picture row col < 16 → HasCell givens row col
      → cell_at facts row col ≡ 2 ^ cell_at picture row col
  pub free : (givens : List ℕ) (picture : Rows) (facts : Masks) → IsBase givens picture facts → (row col : ℕ) → row
      < length picture → col < width_of picture → (HasCell givens row col → ⊥) → cell_at facts row col ≡ 2 ^ 16 - 1
  pub one_base : (picture : Rows) → IsPicture picture → (givens same : List ℕ)
      → ((row col : ℕ) → HasCell givens row col ↔ HasCell same row col) → (facts others : Masks)
      → IsBase givens picture facts → IsBase same picture others → facts ≡ others
  pub none : (picture : Rows) → IsPicture picture → (givens : List ℕ) → ((row col : ℕ) → HasCell givens row col → ⊥)
      → (facts : Masks) → IsBase givens picture facts ↔ (facts ≡ nothing_excluded (length picture) (width_of picture))
  pub one_more : (picture : Rows) → IsPicture picture → (givens more : List ℕ) (row col : ℕ) → row < length picture
      → col < width_of picture → PutsCell givens more row col → (facts : Masks) → IsBase givens picture facts
      → IsBase more picture (with_given picture facts row col)

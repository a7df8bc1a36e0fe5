-- The search in a fixed order, with its count of splits.
use Rattle.std.specs.Prelude.{◌≡◌, ℕ, suc, ◌+◌, ◌-◌, ◌^◌, ◌<◌, ◌≤◌, ◌⊎◌, Option, None, Some, List, [], ◌∷◌, ◌++◌}
use Rattle.std.specs.Prelude.{length, min}
use Rattle.picture.specs.declared.line_id.Axis.TheVariants.{Across, Down}
use Rattle.picture.specs.CellSet.{HasCell}
use Rattle.picture.specs.LineSet.{Lines, HasName}
use Rattle.picture.specs.Rows.{row_at, cell_at, Rows}
use Rattle.clues.specs.ClueBook.{Clues}
use Rattle.line_facts.specs.Counts.{counted}
use Rattle.line_facts.specs.Masks.{IsOnly, Masks}
use Rattle.line_facts.specs.FactSets.{IsFacts, IsLeast, SameShape}
use Rattle.line_facts.specs.Branches.{branches}
use Rattle.fixpoint.specs.ClosedFacts.{EachFits, HasDeadLine, KeepsOtherLines}
use Rattle.fixpoint.specs.Fillings.{only}
use Rattle.trail.specs.declared.cell.Cell.{Cell}
use Rattle.second_search.specs.declared.coming.Coming.{Coming}
use Rattle.second_search.specs.declared.coming.Coming.TheVariants.{Dies, Ends, Splits}
use Rattle.second_search.specs.declared.counting.Ending.{Ending}
use Rattle.second_search.specs.declared.counting.Ending.TheVariants.{Nothing, Found, BrokenOff}
use Rattle.second_search.specs.SettledFacts.{FindsFilling, IsFirstUnsettled, Shows}
use Rattle.second_search.specs.Parts.{picked}

-- the least closed facts over others, where some list fits each line under them
pub record SettlesTo (clues : Clues) (facts settled : Masks) : Type 0 where
  pub are_facts : IsFacts settled
  pub least : IsLeast clues facts settled
  pub fits : EachFits clues settled

-- The outcome of closing facts: no list fits some line; or each cell has one colour left, and these make a picture; or
-- there is a first open cell.
abbrev pub Comes : Clues → Masks → Coming → Type 0
Comes clues facts Dies = HasDeadLine clues facts
Comes clues facts (Ends picture) = (settled : Masks) × (SettlesTo clues facts settled × Shows settled picture)
Comes clues facts (Splits settled cell) = SettlesTo clues facts settled × IsFirstUnsettled settled cell

-- the outcome for facts that are closed already
abbrev pub ComesClosed : Masks → Coming → Type 0
ComesClosed settled Dies = ⊥
ComesClosed settled (Ends picture) = IsFacts settled × Shows settled picture
ComesClosed settled (Splits facts cell) = (facts ≡ settled) × (IsFacts settled × IsFirstUnsettled settled cell)

-- facts that are to be split differ from the facts before only in the lines that are named
abbrev pub SplitsBut : Masks → Coming → Lines → Type 0
SplitsBut facts Dies changed = Unit {0}
SplitsBut facts (Ends picture) changed = Unit {0}
SplitsBut facts (Splits settled cell) changed = KeepsOtherLines facts settled changed

-- The search through the facts that wait, the first of them first, for a picture other than a known one: what it finds,
-- and how often it splits. Facts that have an open cell when closed are split at the first one: branches with this cell
-- held to each colour left, in ascending order, wait in their place.
pub data Searches (clues : Clues) (known : Rows) : List Masks → Option Rows → ℕ → Type 0 where
  none_waits : Searches clues known [] None 0
  is_dead : (facts : Masks) (others : List Masks) (found : Option Rows) (n : ℕ) → HasDeadLine clues facts
      → Searches clues known others found n → Searches clues known (facts ∷ others) found n
  is_known : (facts : Masks) (others : List Masks) (found : Option Rows) (n : ℕ)
      → ((settled : Masks) × (SettlesTo clues facts settled × Shows settled known))
      → Searches clues known others found n → Searches clues known (facts ∷ others) found n
  is_other : (facts : Masks) (others : List Masks) (picture : Rows)
      → ((settled : Masks) × (SettlesTo clues facts settled × Shows settled picture)) → (picture ≡ known → ⊥)
      → Searches clues known (facts ∷ others) (Some picture) 0
  is_split : (facts : Masks) (others : List Masks) (settled : Masks) (cell : Cell) (found : Option Rows) (n : ℕ)
      → SettlesTo clues facts settled × IsFirstUnsettled settled cell
      → Searches clues known (branches settled cell.row cell.col (cell_at settled cell.row cell.col) ++ others) found n
      → Searches clues known (facts ∷ others) found (suc n)

-- The search through the facts that wait splits n times, and then has to split once more.
pub data SplitsPast (clues : Clues) (known : Rows) : List Masks → ℕ → Type 0 where
  once_more : (facts : Masks) (others : List Masks) (settled : Masks) (cell : Cell)
      → SettlesTo clues facts settled × IsFirstUnsettled settled cell → SplitsPast clues known (facts ∷ others) 0
  past_dead : (facts : Masks) (others : List Masks) (n : ℕ) → HasDeadLine clues facts → SplitsPast clues known others n
      → SplitsPast clues known (facts ∷ others) n
  past_known : (facts : Masks) (others : List Masks) (n : ℕ)
      → ((settled : Masks) × (SettlesTo clues facts settled × Shows settled known)) → SplitsPast clues known others n
      → SplitsPast clues known (facts ∷ others) n
  past_split : (facts : Masks) (others : List Masks) (settled : Masks) (cell : Cell) (n : ℕ)
      → SettlesTo clues facts settled × IsFirstUnsettled settled cell
      → SplitsPast clues known (branches settled cell.row cell.col (cell_at settled cell.row cell.col) ++ others) n
      → SplitsPast clues known (facts ∷ others) (suc n)

-- the facts in which a part is searched: those on the part, and elsewhere only a picture's colours
abbrev pub alone : List ℕ → Masks → Rows → Masks
alone cells facts picture = picked cells facts (only picture)

-- how often the search from some facts splits until it ends
abbrev pub HasCost : Clues → Rows → Masks → ℕ → Type 0
HasCost clues known facts n = (found : Option Rows) × Searches clues known (facts ∷ []) found n

-- facts have one cost at most
abbrev pub CostsAreUnique : Type 0
CostsAreUnique = (clues : Clues) (known : Rows) (facts : Masks) (m n : ℕ) → HasCost clues known facts m
    → HasCost clues known facts n → m ≡ n

-- n splits are allowed; without an allowance any number is
abbrev pub Allows : Option ℕ → ℕ → Type 0
Allows None n = Unit {0}
Allows (Some most) n = n ≤ most

-- How the search from some facts ends after n splits. It found nothing, or another picture, within the allowance. Or it
-- was broken off at the allowance, since it needs one more split: its cost, whatever it is, is more than is allowed.
abbrev pub EndsAs : Clues → Rows → Masks → Option ℕ → Ending → ℕ → Type 0
EndsAs clues known facts allowance Nothing n = Searches clues known (facts ∷ []) None n × Allows allowance n
EndsAs clues known facts allowance (Found picture) n =
    Searches clues known (facts ∷ []) (Some picture) n × Allows allowance n
EndsAs clues known facts allowance BrokenOff n = (allowance ≡ Some n)
    × (SplitsPast clues known (facts ∷ []) n × ((cost : ℕ) → HasCost clues known facts cost → n < cost))

-- the answer is true of facts: nothing but the known picture fills them, or the picture that was found does
abbrev pub EndsTrue : Clues → Rows → Masks → Ending → Type 0
EndsTrue clues known facts Nothing = FindsFilling clues facts known None
EndsTrue clues known facts (Found picture) = FindsFilling clues facts known (Some picture)
EndsTrue clues known facts BrokenOff = ⊥

-- how many splits of the fixed order a part is given, where no allowance is set, before it is decided in other ways
abbrev pub fixed_splits : ℕ
fixed_splits = 100

-- How the search of a part ends if it may go past `most` splits of the fixed order: as in that order if it ends within
-- them, and otherwise with an answer that is true.
abbrev pub EndsPast : Clues → Rows → Masks → ℕ → Ending → ℕ → Type 0
EndsPast clues known facts most found n =
    (EndsAs clues known facts (Some most) found n × (found ≡ BrokenOff → ⊥))
    ⊎ (EndsAs clues known facts (Some most) BrokenOff n × EndsTrue clues known facts found)

-- How the search of a part ends: under an allowance as in the fixed order; without one as in the fixed order within
-- `fixed_splits` splits, and past them with an answer that is true.
abbrev pub EndsWithin : Clues → Rows → Masks → Option ℕ → Ending → ℕ → Type 0
EndsWithin clues known facts (Some most) found n = EndsAs clues known facts (Some most) found n
EndsWithin clues known facts None found n = EndsPast clues known facts fixed_splits found n

-- outside of some cells the facts leave only a picture's colours
pub record KeepsOutside (cells : List ℕ) (picture : Rows) (facts : Masks) : Type 0 where
  pub same_shape : SameShape picture facts
  pub outside : (row col : ℕ) → col < length (row_at facts row) → (HasCell cells row col → ⊥)
      → IsOnly (cell_at facts row col) (cell_at picture row col)

-- a set has the names of all lines that go through some cells
abbrev pub NamesLinesOf : List ℕ → Lines → Type 0
NamesLinesOf cells lines = (row col : ℕ) → HasCell cells row col
    → HasName lines (record { axis = Across; at = row }) × HasName lines (record { axis = Down; at = col })

-- a count of splits after n more, which stays at the largest 32-bit number
abbrev pub raised : ℕ → ℕ → ℕ
raised count n = min (count + n) (2 ^ 32 - 1)

-- an engine was called at least once: its count of calls is at least that after one call
abbrev pub IsCalled : ℕ → ℕ → Type 0
IsCalled before after = counted before 1 ≤ after

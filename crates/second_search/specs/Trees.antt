-- Trees that a search writes line by line: which line may come next, and where lines lead.
use Rattle.std.specs.Prelude.{◌≡◌, ℕ, ◌-◌, ◌<◌, Bool, true, false, Option, None, Some, List, [], ◌∷◌, ◌++◌}
use Rattle.picture.specs.declared.line_id.Axis.{Axis}
use Rattle.picture.specs.declared.line_id.LineId.{LineId}
use Rattle.picture.specs.Rows.{cell_at, line_of, lines_along, HasLine, Rows}
use Rattle.clues.specs.ClueBook.{Clues, clue_at}
use Rattle.line_facts.specs.declared.line_engine.Outcome.{Outcome}
use Rattle.line_facts.specs.declared.line_engine.Outcome.TheVariants.{Narrowed, Dead as NoneFits}
use Rattle.line_facts.specs.Fits.{CanFit}
use Rattle.line_facts.specs.Masks.{IsOnly, Masks}
use Rattle.line_facts.specs.FactSets.{Gains, IsWithin}
use Rattle.fixpoint.specs.Fillings.{Fills}
use Rattle.split_choice.specs.Choices.{IsUnsettled}
use Rattle.cert_text.specs.declared.cert_line.CellNumber.{CellNumber}
use Rattle.cert_text.specs.declared.cert_line.CertLine.{CertLine}
use Rattle.cert_text.specs.declared.cert_line.CertLine.TheVariants.{Line, Split, Dead, Done}
use Rattle.second_search.specs.declared.tree_lines.Lines.{Lines}
use Rattle.second_search.specs.declared.tree_lines.Lines.TheVariants.{Kept, Dropped}
use Rattle.second_search.specs.declared.tree_step.TreeStep.{TreeStep}
use Rattle.second_search.specs.declared.tree_step.TreeStep.TheVariants.{Ends, Splits, Other}
use Rattle.second_search.specs.declared.tree.Growing.{Growing}
use Rattle.second_search.specs.declared.ladder.Decided.{Decided}
use Rattle.second_search.specs.declared.ladder.Decided.TheVariants.{Tree, OtherPicture}
use Rattle.cert_check.specs.Puzzle.{HasCellNumber, HasLineNumber, ShowsOnly, line_id, split_at}
use Rattle.second_search.specs.Weights.{load}

-- ---- the next line

-- not just one colour is left in a cell
abbrev pub IsUnsettledAt : Masks → CellNumber → Type 0
IsUnsettledAt facts cell = (k : ℕ) → IsOnly (cell_at facts (cell.row - 1) (cell.col - 1)) k → ⊥

-- the facts gain all that a line forces, and this changes the line
pub record ForcesMore (clues : Clues) (facts : Masks) (line : LineId) (gained : Masks) : Type 0 where
  pub outcome : Outcome
  pub gains : Gains (clue_at clues line) line facts gained outcome
  pub more : line_of facts line ≡ line_of gained line → ⊥

-- A certificate line that may come next on a branch, and the branches that it leads to: a line that forces something
-- new; a split of a cell in which not just one colour is left, with a branch for each of them; a dead line, which no
-- list fits; or the end, where no colour is left but the known picture's.
abbrev pub Stands : Clues → Rows → Masks → CertLine → List (List (List ℕ)) → Type 0
Stands clues known facts (Line number) next =
    HasLineNumber facts number
    × ((gained : Masks) × (ForcesMore clues facts (line_id number) gained × (next ≡ gained ∷ [])))
Stands clues known facts (Split cell) next =
    HasCellNumber facts cell × ((next ≡ split_at facts cell) × IsUnsettledAt facts cell)
Stands clues known facts (Dead number) next =
    HasLineNumber facts number
    × ((CanFit (clue_at clues (line_id number)) (line_of facts (line_id number)) → ⊥) × (next ≡ []))
Stands clues known facts Done next = ShowsOnly known facts × (next ≡ [])
Stands clues known facts _ next = ⊥

-- ---- where lines lead

-- lines lead from the branches that wait to others, one line after the other, each on the first branch that waits
abbrev pub Walks : Clues → Rows → List CertLine → List (List (List ℕ)) → List (List (List ℕ)) → Type 0
Walks clues known [] waits rest = waits ≡ rest
Walks clues known (line ∷ lines) [] rest = ⊥
Walks clues known (line ∷ lines) (facts ∷ others) rest =
    (next : List (List (List ℕ))) × (Stands clues known facts line next × Walks clues known lines (next ++ others) rest)

-- ---- lines that are kept or dropped

-- these lines are added to those that are kept, or all are dropped
abbrev pub Adds : Lines → Lines → List CertLine → Type 0
Adds (Kept old) (Kept new) lines = new.items ≡ old.items ++ lines
Adds (Kept old) Dropped lines = ⊥
Adds Dropped (Kept new) lines = ⊥
Adds Dropped Dropped lines = Unit {0}

-- lines are added that lead from the facts of a branch to other facts, or to none, whatever waits after it
pub record Says (clues : Clues) (known : Rows) (facts : Masks) (front : List (List (List ℕ)))
    (old new : Lines) : Type 0 where
  pub lines : List CertLine
  pub adds : Adds old new lines
  pub walks : (others : List Masks) → Walks clues known lines (facts ∷ others) (front ++ others)

-- the outcome of closing a branch line by line: facts that exclude no less, or a dead line, which ends the branch
abbrev pub Settles : Clues → Masks → Masks → Lines → Lines → Outcome → Type 0
Settles clues facts settled old new Narrowed =
    IsWithin facts settled × ((known : Rows) → Says clues known facts (settled ∷ []) old new)
Settles clues facts settled old new NoneFits = (known : Rows) → Says clues known facts [] old new

-- a picture other than the known one fills the facts
abbrev pub IsOtherIn : Clues → Rows → Masks → Rows → Type 0
IsOtherIn clues known facts picture = Fills clues facts picture × (picture ≡ known → ⊥)

-- a line that no list fits
pub record IsDeadLine (clues : Clues) (facts : Masks) (line : LineId) : Type 0 where
  pub has : HasLine facts line
  pub dead : CanFit (clue_at clues line) (line_of facts line) → ⊥

-- some list fits each line along an axis
abbrev pub EachFitsAlong : Clues → Masks → Axis → Type 0
EachFitsAlong clues facts axis = (at : ℕ) → at < lines_along axis facts
    → CanFit (clue_at clues (record { axis = axis; at = at })) (line_of facts (record { axis = axis; at = at }))

-- a picture is the known one, which ends a branch, or another
abbrev pub IsComparedTo : Rows → Rows → TreeStep → Type 0
IsComparedTo known picture (Ends line) = (line ≡ Done) × (picture ≡ known)
IsComparedTo known picture (Splits cell) = ⊥
IsComparedTo known picture (Other other) = (other ≡ picture) × (picture ≡ known → ⊥)

-- what comes next on a closed branch: a line that ends it, a cell to split, or a picture other than the known one
abbrev pub Continues : Clues → Rows → Masks → TreeStep → Type 0
Continues clues known facts (Ends line) = Stands clues known facts line []
Continues clues known facts (Splits cell) = IsUnsettled facts cell
Continues clues known facts (Other picture) = IsOtherIn clues known facts picture

-- ---- a tree

-- The outcome of a turn on the first branch that waits: lines that lead to what waits afterwards, the load of which is
-- less; or another picture.
pub record TurnsOn (clues : Clues) (known : Rows) (old new : Growing) : Type 0 where
  pub lines : List CertLine
  pub adds : Adds old.lines new.lines lines
  pub walks : Walks clues known lines (old.trail.at_hand ∷ old.trail.behind) new.trail.behind
  pub lighter : load new.trail.behind < load (old.trail.at_hand ∷ old.trail.behind)

abbrev pub Turns : Clues → Rows → Growing → Growing → Option (List (List ℕ)) → Type 0
Turns clues known old new None = TurnsOn clues known old new
Turns clues known old new (Some picture) = IsOtherIn clues known old.trail.at_hand picture

-- the next branch that waits becomes the current one (`at_hand`), or none waits
abbrev pub Advances : Growing → Growing → Bool → Type 0
Advances old new true = (old.trail.behind ≡ new.trail.at_hand ∷ new.trail.behind) × (new.lines ≡ old.lines)
Advances old new false = (old.trail.behind ≡ []) × (new.lines ≡ old.lines)

-- ---- what is decided

-- no line yet, and lines are kept where that is asked
abbrev pub AreNone : Bool → Lines → Type 0
AreNone keeps (Kept lines) = (keeps ≡ true) × (lines.items ≡ [])
AreNone keeps Dropped = keeps ≡ false

-- lines are kept exactly where that is asked
abbrev pub AreKeptWhere : Bool → Lines → Type 0
AreKeptWhere keeps (Kept lines) = keeps ≡ true
AreKeptWhere keeps Dropped = keeps ≡ false

-- the lines of a tree from facts, if they are kept; if they are dropped, such lines exist
abbrev pub AreTree : Clues → Rows → Masks → Lines → Type 0
AreTree clues known facts (Kept lines) = Walks clues known lines.items (facts ∷ []) []
AreTree clues known facts Dropped = (lines : List CertLine) × Walks clues known lines (facts ∷ []) []

-- a tree, or a picture other than the known one
abbrev pub Decides : Clues → Rows → Masks → Bool → Decided → Type 0
Decides clues known facts keeps (Tree lines) = AreTree clues known facts lines × AreKeptWhere keeps lines
Decides clues known facts keeps (OtherPicture picture) = IsOtherIn clues known facts picture

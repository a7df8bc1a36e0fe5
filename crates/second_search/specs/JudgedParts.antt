-- A picture judged by its parts, with what is known of each.
use Rattle.std.specs.Prelude.{◌≡◌, ℕ, zero, suc, ◌+◌, ◌<◌, ◌≤◌, ◌⊎◌, Bool, IsTrue, Option, List, [], length, map}
use Rattle.std.specs.Prelude.{slice_index_or}
use Rattle.line_facts.specs.Masks.{Masks}
use Rattle.picture.specs.Rows.{Rows}
use Rattle.clues.specs.ClueBook.{Clues}
use Rattle.line_facts.specs.declared.meter.Meter.{Meter}
use Rattle.line_facts.specs.Counts.{Counts, counted}
use Rattle.second_search.specs.declared.counting.Ending.{Ending}
use Rattle.second_search.specs.declared.counting.Ending.TheVariants as ending
use Rattle.second_search.specs.declared.keeper.Answer.{Answer}
use Rattle.second_search.specs.declared.keeper.Answer.TheVariants.{Unknown, Nothing, Filling}
use Rattle.second_search.specs.declared.keeper.Judged.{Judged}
use Rattle.second_search.specs.declared.keeper.Judged.TheVariants as judged
use Rattle.second_search.specs.declared.keeper.KeptPart.{KeptPart}
use Rattle.second_search.specs.declared.keeper.Spent.{Spent}
use Rattle.second_search.specs.Parts.{AreParts, Board, IsOtherFilling}
use Rattle.second_search.specs.FixedOrder.{EndsWithin, alone, raised}
use Rattle.second_search.specs.Verdict.{Verdict, Unique, Other, Undecided}

-- the part at a place, its cells and what is known of it
abbrev pub kept_at : List KeptPart → ℕ → KeptPart
kept_at kept i = slice_index_or kept i (record { cells = []; answer = Unknown })

abbrev pub cells_at : List KeptPart → ℕ → List ℕ
cells_at kept i = (kept_at kept i).cells

abbrev pub answer_at : List KeptPart → ℕ → Answer
answer_at kept i = (kept_at kept i).answer

-- the cells of each part that is kept
abbrev pub parts_of : List KeptPart → List (List ℕ)
parts_of kept = map (λ (part : KeptPart). part.cells) kept

-- the first of some parts are kept, and nothing is known of them yet
pub record StartsWith (parts : List (List ℕ)) (kept : List KeptPart) (count : ℕ) : Type 0 where
  pub count_is : length kept ≡ count
  pub cells : (i : ℕ) → i < count → cells_at kept i ≡ slice_index_or parts i []
  pub unknown : (i : ℕ) → i < count → answer_at kept i ≡ Unknown

-- ---- kept fillings

abbrev pub IsFilling : Answer → Type 0
IsFilling Unknown = ⊥
IsFilling Nothing = ⊥
IsFilling (Filling picture) = Unit {0}

-- no other filling is kept of any of the first parts
abbrev pub HasNoFilling : List KeptPart → ℕ → Type 0
HasNoFilling kept n = (i : ℕ) → i < n → IsFilling (answer_at kept i) → ⊥

-- another filling of a part is kept
pub record HasFilling (kept : List KeptPart) (i : ℕ) : Type 0 where
  pub place : i < length kept
  pub is : IsFilling (answer_at kept i)

-- the first part of which another filling is kept, and that filling
pub record FirstFilling (kept : List KeptPart) (other : Rows) : Type 0 where
  pub at : ℕ
  pub before : HasNoFilling kept at
  pub place : at < length kept
  pub is : answer_at kept at ≡ Filling other

-- ---- going along the parts

-- How a part is dealt with, and how many searches and splits that takes. If nothing is known of it, it is searched, and
-- `found` is how the search ends; otherwise it is skipped without a search.
abbrev pub EndsBy : Board → Option ℕ → List ℕ → Answer → Ending → ℕ → ℕ → Type 0
EndsBy board allowance cells Unknown found searched splits =
    (searched ≡ 1) × EndsWithin board.clues board.picture (alone cells board.facts board.picture) allowance found splits
EndsBy board allowance cells Nothing found searched splits =
    (found ≡ ending.Nothing) × ((searched ≡ 0) × (splits ≡ 0))
EndsBy board allowance cells (Filling other) found searched splits =
    (found ≡ ending.Nothing) × ((searched ≡ 0) × (splits ≡ 0))

abbrev pub EndsPart : Board → Option ℕ → KeptPart → Ending → ℕ → ℕ → Type 0
EndsPart board allowance part found searched splits =
    EndsBy board allowance part.cells part.answer found searched splits

-- the searches of the first parts find no other filling, and each takes at most as many splits as are allowed
abbrev pub Passes : Board → Option ℕ → List KeptPart → ℕ → ℕ → ℕ → Type 0
Passes board allowance kept zero searched splits = (searched ≡ 0) × (splits ≡ 0)
Passes board allowance kept (suc i) searched splits =
    (searched_before : ℕ) × ((splits_before : ℕ) × ((searched_here : ℕ)
    × ((splits_here : ℕ) × (Passes board allowance kept i searched_before splits_before
    × (EndsPart board allowance (kept_at kept i) ending.Nothing searched_here splits_here
    × ((searched ≡ searched_before + searched_here) × (splits ≡ splits_before + splits_here)))))))

-- the first `i` parts are passed, and the next one ends with `found`
pub record StopsAt (board : Board) (allowance : Option ℕ) (kept : List KeptPart)
    (i : ℕ) (found : Ending) (searched splits : ℕ) : Type 0 where
  pub place : i < length kept
  pub searched_before : ℕ
  pub splits_before : ℕ
  pub searched_here : ℕ
  pub splits_here : ℕ
  pub before : Passes board allowance kept i searched_before splits_before
  pub here : EndsPart board allowance (kept_at kept i) found searched_here splits_here
  pub searched_is : searched ≡ searched_before + searched_here
  pub splits_is : splits ≡ splits_before + splits_here

-- all parts are passed, or one has another filling or is broken off
abbrev pub Stops : Board → Option ℕ → List KeptPart → ℕ → Ending → ℕ → ℕ → Type 0
Stops board allowance kept i ending.Nothing searched splits =
    (i ≡ length kept) × Passes board allowance kept (length kept) searched splits
Stops board allowance kept i (ending.Found other) searched splits =
    StopsAt board allowance kept i (ending.Found other) searched splits
Stops board allowance kept i ending.BrokenOff searched splits =
    StopsAt board allowance kept i ending.BrokenOff searched splits

-- ---- the counts

-- Something was done by some searches and splits, which were added to their counts. Each evaluation is one call of the
-- engine; there was at least one for each search, and without a search there was none.
pub record Done (searched_before searched_after splits_before splits_after : ℕ) (meter_before meter_after : Meter)
    (calls_before calls_after : ℕ) (Is : ℕ → ℕ → Type 0) : Type 0 where
  pub searched : ℕ
  pub splits : ℕ
  pub evaluations : ℕ
  pub is : Is searched splits
  pub searched_is : searched_after ≡ raised searched_before searched
  pub splits_is : splits_after ≡ raised splits_before splits
  pub counts : Counts evaluations 0 meter_before meter_after calls_before calls_after
  pub none : searched ≡ 0 → evaluations ≡ 0
  pub at_least : searched ≤ evaluations

-- the sums of both, each of which stays at the largest number of its type
pub record AddsUp (one more both : Spent) : Type 0 where
  pub searched : both.searched ≡ raised one.searched more.searched
  pub splits : both.splits ≡ raised one.splits more.splits
  pub evaluations : both.evaluations ≡ counted one.evaluations more.evaluations

-- a meter with n evaluations and no trials
abbrev pub evaluated : ℕ → Meter
evaluated n = record { evaluations = n; trials = 0 }

-- something was done by the searches, splits and evaluations that were spent, counted from 0
abbrev pub DoneBy : Spent → ℕ → ℕ → (ℕ → ℕ → Type 0) → Type 0
DoneBy spent calls_before calls_after Is =
    Done 0 spent.searched 0 spent.splits (evaluated 0) (evaluated spent.evaluations) calls_before calls_after Is

-- ---- what is known afterwards

-- the first parts are known to have no other filling, and all else is as it was
pub record Changes (old new : List KeptPart) (end : ℕ) : Type 0 where
  pub count : length new ≡ length old
  pub cells : (i : ℕ) → cells_at new i ≡ cells_at old i
  pub before : (i : ℕ) → i < end → answer_at new i ≡ Nothing
  pub behind : (i : ℕ) → end ≤ i → kept_at new i ≡ kept_at old i

-- another filling of one part is kept, and all else is as it was
pub record Fills (old new : List KeptPart) (i : ℕ) (other : Rows) : Type 0 where
  pub count : length new ≡ length old
  pub cells : (j : ℕ) → cells_at new j ≡ cells_at old j
  pub here : answer_at new i ≡ Filling other
  pub elsewhere : (j : ℕ) → (j ≡ i → ⊥) → kept_at new j ≡ kept_at old j

-- The first parts have no other filling, this one has, and all else is as it was.
pub record Finds (old new : List KeptPart) (i : ℕ) (other : Rows) : Type 0 where
  pub count : length new ≡ length old
  pub cells : (j : ℕ) → cells_at new j ≡ cells_at old j
  pub before : (j : ℕ) → j < i → answer_at new j ≡ Nothing
  pub here : answer_at new i ≡ Filling other
  pub behind : (j : ℕ) → i < j → kept_at new j ≡ kept_at old j

-- a place where going along the parts can stop: a part, or after the last one unless another filling was found
abbrev pub IsPlace : List KeptPart → ℕ → Ending → Type 0
IsPlace kept i ending.Nothing = i ≤ length kept
IsPlace kept i (ending.Found other) = i < length kept
IsPlace kept i ending.BrokenOff = i ≤ length kept

-- what was found is noted; the picture is decided unless a search was broken off
abbrev pub Notes : List KeptPart → List KeptPart → ℕ → Ending → Bool → Type 0
Notes old new i ending.Nothing is_decided = IsTrue is_decided × Changes old new i
Notes old new i (ending.Found other) is_decided = IsTrue is_decided × Finds old new i other
Notes old new i ending.BrokenOff is_decided = (IsTrue is_decided → ⊥) × Changes old new i

-- ---- a picture judged

-- another filling of a part is kept already, and nothing is searched
pub record KeepsOther (old new : List KeptPart) (searched splits : ℕ) : Type 0 where
  pub at : ℕ
  pub is : HasFilling old at
  pub same : new ≡ old
  pub searched_none : searched ≡ 0
  pub splits_none : splits ≡ 0

-- no other filling is kept, and each part of which nothing was known was searched to its end and has none
pub record PassesAll (board : Board) (allowance : Option ℕ) (old new : List KeptPart)
    (searched splits : ℕ) : Type 0 where
  pub none_kept : HasNoFilling old (length old)
  pub passes : Passes board allowance old (length old) searched splits
  pub noted : Changes old new (length old)

-- no other filling is kept, and the first part that does not pass has another filling
pub record FindsOne (board : Board) (allowance : Option ℕ) (old new : List KeptPart)
    (searched splits : ℕ) : Type 0 where
  pub none_kept : HasNoFilling old (length old)
  pub at : ℕ
  pub other : Rows
  pub stops : StopsAt board allowance old at (ending.Found other) searched splits
  pub noted : Finds old new at other

-- no other filling is kept, and the first part that does not pass costs more than is allowed
pub record BreaksOff (board : Board) (allowance : Option ℕ) (old new : List KeptPart)
    (searched splits : ℕ) : Type 0 where
  pub none_kept : HasNoFilling old (length old)
  pub at : ℕ
  pub stops : StopsAt board allowance old at ending.BrokenOff searched splits
  pub noted : Changes old new at

-- how a picture is judged, by how many searches and splits, and what is known of the parts before and afterwards
abbrev pub Judges : Board → Option ℕ → List KeptPart → List KeptPart → Verdict → ℕ → ℕ → Type 0
Judges board allowance old new Unique searched splits = PassesAll board allowance old new searched splits
Judges board allowance old new Other searched splits =
    KeepsOther old new searched splits ⊎ FindsOne board allowance old new searched splits
Judges board allowance old new Undecided searched splits = BreaksOff board allowance old new searched splits

-- ---- what is true of a scene

-- what is known of the other fillings of a part is true
abbrev pub IsTrueOf : Clues → List ℕ → Rows → List ℕ → Answer → Type 0
IsTrueOf clues givens picture cells Unknown = Unit {0}
IsTrueOf clues givens picture cells Nothing = (other : Rows) → IsOtherFilling clues givens picture cells other → ⊥
IsTrueOf clues givens picture cells (Filling other) = IsOtherFilling clues givens picture cells other

abbrev pub AreTrue : Clues → List ℕ → Rows → List KeptPart → Type 0
AreTrue clues givens picture kept = (i : ℕ) → i < length kept
    → IsTrueOf clues givens picture (cells_at kept i) (answer_at kept i)

-- all parts of facts are kept, and nothing is known of them yet, so that all that is known is true
pub record Starts (facts : Masks) (kept : List KeptPart) : Type 0 where
  pub parts : AreParts facts (parts_of kept)
  pub unknown : (i : ℕ) → answer_at kept i ≡ Unknown
  pub true_answers : (clues : Clues) (givens : List ℕ) (picture : Rows) → AreTrue clues givens picture kept

-- ---- what is answered

-- the verdict that follows from whether the picture is decided and from what is kept
abbrev pub IsToldBy : Bool → List KeptPart → Verdict → Type 0
IsToldBy is_decided kept Unique = IsTrue is_decided × HasNoFilling kept (length kept)
IsToldBy is_decided kept Other = IsTrue is_decided × ((i : ℕ) × HasFilling kept i)
IsToldBy is_decided kept Undecided = (IsTrue is_decided → ⊥) × HasNoFilling kept (length kept)

-- the verdict that an answer means; another picture is the first other filling that is kept
abbrev pub AnswersAs : List KeptPart → Judged → Verdict → Type 0
AnswersAs kept judged.Unique verdict = verdict ≡ Unique
AnswersAs kept (judged.Other other) verdict = (verdict ≡ Other) × FirstFilling kept other.now
AnswersAs kept judged.Undecided verdict = verdict ≡ Undecided

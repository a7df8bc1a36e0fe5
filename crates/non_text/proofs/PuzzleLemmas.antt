-- The parts of a puzzle.
use Rattle.std.proofs.Common.{◌≡◌, ℕ, ◌<◌, ◌≤◌, Bool, true, false, cond, leb, List, Option, Some, None, Result, Ok, Err, Decides, refl, ap, arith, ◌&&◌}
use Rattle.std.specs.Option.{option_and_then}
use Rattle.std.specs.Cmp.Lexicographic.{pointwise}
use Rattle.std.proofs.lemmas.Bool.{leb-true}
use Rattle.std.proofs.lemmas.Bool.Decides.{Decides-and, Decides-eqb, Decides-like}
use Rattle.std.proofs.lemmas.Slice.Eq.{slice_eq-Decides}
use Rattle.picture.specs.Rows.{Rows}
use Rattle.picture.specs.declared.picture.TheConstants.{MAX_SIDE}
use Rattle.clues.specs.declared.block.Block.{Block}
use Rattle.clues.specs.Clue.{block}
use Rattle.clues.specs.ClueBook.{Clues, clues_from, clues_of}
use Rattle.non_text.specs.declared.non_puzzle.NonPuzzle.{NonPuzzle}
use Rattle.non_text.specs.declared.fault.NonFault.{NonFault}
use Rattle.non_text.specs.declared.fault.NonFault.TheVariants.{GoalDisagrees}
use Rattle.picture.specs.Numbers.{number_spelled}
use Rattle.non_text.specs.Lines.{at_keyword, value_of}
use Rattle.non_text.specs.Puzzle.{size_within, size_in, size_behind, same_block, same_clues, agreeing}
use Rattle.non_text.proofs.SectionLemmas.{clues_count}

-- ---- sizes are within the limits

size_within_limits : (m n : ℕ) → size_within m ≡ Some n → (0 < n) × (n ≤ MAX_SIDE)
size_within_limits m n e = by_tests (leb 1 m) (leb m MAX_SIDE) refl refl e
  where
    by_tests : (s t : Bool) → leb 1 m ≡ s → leb m MAX_SIDE ≡ t → cond (s && t) (Some m) None ≡ Some n → (0 < n) × (n ≤ MAX_SIDE)
    by_tests true true es et h =
        let is : m ≡ n = cc in
        let low = leb-true 1 m es in
        let high = leb-true m MAX_SIDE et in
        (omega (arith, is, low), omega (arith, is, high))
    by_tests true false es et h = cc
    by_tests false t es et h = cc

size_in_limits : (value : List ℕ) (n : ℕ) → size_in value ≡ Some n → (0 < n) × (n ≤ MAX_SIDE)
unfolding size_in
size_in_limits value n e = by_number (number_spelled value) e
  where
    by_number : (o : Option ℕ) → option_and_then size_within o ≡ Some n → (0 < n) × (n ≤ MAX_SIDE)
    by_number None h = cc
    by_number (Some m) h = size_within_limits m n h

pub size_limits : (word : List ℕ) (lines : List (List ℕ)) (n : ℕ) → size_behind word lines ≡ Some n → (0 < n) × (n ≤ MAX_SIDE)
unfolding size_behind
size_limits word lines n e = by_line (at_keyword word lines) e
  where
    by_line : (found : Option (List ℕ × List (List ℕ))) → option_and_then (λ line. size_in (value_of line.0)) found ≡ Some n → (0 < n) × (n ≤ MAX_SIDE)
    by_line None h = cc
    by_line (Some line) h = size_in_limits (value_of line.0) n h

pub ruleset parts = (size_limits, clues_count)

-- ---- the goal has the clues

block_decides : (a b : Block) → Decides (same_block a b) (a ≡ b)
block_decides a b =
    Decides-like _ (λ (e : (a.len ≡ b.len) × (a.colour ≡ b.colour)). let joined : block a.len a.colour ≡ block b.len b.colour = cc (e.0, e.1) in joined)
    (λ (e : a ≡ b). (ap (λ (x : Block). x.len) e, ap (λ (x : Block). x.colour) e))
    (Decides-and _ _ (Decides-eqb a.len b.len) (Decides-eqb a.colour b.colour))

clue_decides : (a b : List Block) → Decides (pointwise same_block a b) (a ≡ b)
clue_decides a b = slice_eq-Decides block_decides a b _ refl

list_decides : (a b : List (List Block)) → Decides (pointwise (pointwise same_block) a b) (a ≡ b)
list_decides a b = slice_eq-Decides clue_decides a b _ refl

pub clues_decides : (a b : Clues) → Decides (same_clues a b) (a ≡ b)
unfolding same_clues
clues_decides a b =
    Decides-like _ (λ (e : (a.rows ≡ b.rows) × (a.columns ≡ b.columns)). let joined : clues_from a.rows a.columns ≡ clues_from b.rows b.columns = cc (e.0, e.1) in joined)
    (λ (e : a ≡ b). (ap (λ (x : Clues). x.rows) e, ap (λ (x : Clues). x.columns) e))
    (Decides-and _ _ (list_decides a.rows b.rows) (list_decides a.columns b.columns))

pub agreeing_none : (clues : Clues) → agreeing clues None ≡ Ok (record { clues = clues; goal = None })
unfolding agreeing
agreeing_none clues = refl

abbrev pub chosen : Bool → NonPuzzle → Result NonPuzzle NonFault
chosen t puzzle = cond t (Ok puzzle) (Err GoalDisagrees)

pub agreeing_same : (clues : Clues) (rows : Rows) → clues_of rows ≡ clues → agreeing clues (Some rows) ≡ Ok (record { clues = clues; goal = Some rows })
unfolding agreeing
agreeing_same clues rows e = ap (λ t. chosen t (record { clues = clues; goal = Some rows })) ((clues_decides (clues_of rows) clues).1 e)

pub agreeing_other : (clues : Clues) (rows : Rows) → (clues_of rows ≡ clues → ⊥) → agreeing clues (Some rows) ≡ Err GoalDisagrees
unfolding agreeing
agreeing_other clues rows other = ap (λ t. chosen t (record { clues = clues; goal = Some rows })) (not_same (same_clues (clues_of rows) clues) refl)
  where
    not_same : (t : Bool) → same_clues (clues_of rows) clues ≡ t → t ≡ false
    not_same true e = absurd (other ((clues_decides (clues_of rows) clues).0 e))
    not_same false e = refl

pub ruleset agreement = (agreeing_none, agreeing_same, agreeing_other)

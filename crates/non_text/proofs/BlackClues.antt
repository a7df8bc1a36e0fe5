-- The clues that are read name colour 1 alone, and so pictures with such clues have no colour above 1.
use Rattle.std.proofs.Common.{◌≡◌, ℕ, zero, suc, ◌≤◌, Bool, true, false, cond, eqb, leb, List, [], ◌∷◌, length, get_or, map, take, Option, Some, None, Result, Ok, Err, refl, sym, ap, subst, ◌∙◌}
use Rattle.std.proofs.Common.{arith, inl, inr, codes}
use Rattle.std.specs.Option.{ok_or}
use Rattle.std.specs.List.{All, slice_split}
use Rattle.std.proofs.lemmas.Bool.{eqb-true, cases_lt}
use Rattle.std.proofs.lemmas.List.{get_or-map, get_or_past, length-map}
use Rattle.std.proofs.lemmas.List.Elements.{All-cons, All-get_or, All-nil}
use Rattle.picture.specs.Readers.{◌>>=◌}
use Rattle.picture.specs.Rows.{cell_at, row_at, Rows}
use Rattle.clues.specs.declared.block.Block.{Block}
use Rattle.clues.specs.Clue.{block, clue_of, longer}
use Rattle.clues.specs.ClueBook.{Clues, clues_from, clues_of}
use Rattle.non_text.specs.declared.non_puzzle.NonPuzzle.{NonPuzzle}
use Rattle.non_text.specs.declared.fault.NonFault.{NonFault}
use Rattle.non_text.specs.declared.fault.NonFault.TheVariants.{BadClue, ClueTooLong, MissingSize}
use Rattle.non_text.specs.Lines.{at_keyword, is_blank_line, lines_of, section_of}
use Rattle.non_text.specs.ClueLine.{black, cells_needed, clue_from, clue_in, clues_in, has_zero, is_lone_zero, numbers_in}
use Rattle.non_text.specs.Section.{clues_behind, found_clues, kept_lines, leaves_blanks, section_clues}
use Rattle.non_text.specs.Puzzle.{agreeing, first_fault, goal_behind, or_fault, puzzle_of, same_clues, size_behind}
use Rattle.non_text.specs.TwoColours.{IsInTwoColours}
use Rattle.non_text.proofs.PuzzleLemmas.{chosen, clues_decides}
use Rattle.non_text.proofs.SectionLemmas.{bind_ok}

-- ---- clues that name colour 1 alone

abbrev pub AreBlack : List Block → Type 0
AreBlack [] = Unit {0}
AreBlack (b ∷ blocks) = (b.colour ≡ 1) × AreBlack blocks

black_blocks : (lens : List ℕ) → AreBlack (map black lens)
black_blocks [] = tt
black_blocks (n ∷ lens) = (refl, black_blocks lens)

black_from : (cells : ℕ) (numbers : List ℕ) (blocks : List Block) → clue_from cells numbers ≡ Ok blocks → AreBlack blocks
unfolding clue_from
black_from cells numbers blocks e = by_tests (is_lone_zero numbers) (has_zero numbers) (leb (cells_needed numbers) cells) e
  where
    by_tests : (s t u : Bool) → cond s (Ok []) (cond t (Err BadClue) (cond u (Ok (map black numbers)) (Err ClueTooLong))) ≡ Ok blocks → AreBlack blocks
    by_tests true t u h = let is : [] ≡ blocks = cc in subst AreBlack is tt
    by_tests false true u h = cc
    by_tests false false true h = let is : map black numbers ≡ blocks = cc in subst AreBlack is (black_blocks numbers)
    by_tests false false false h = cc

black_clue : (cells : ℕ) (line : List ℕ) (blocks : List Block) → clue_in cells line ≡ Ok blocks → AreBlack blocks
unfolding clue_in
black_clue cells line blocks e = by_test (is_blank_line line) e
  where
    by_test : (t : Bool) → cond t (Ok []) (numbers_in (slice_split (λ b. eqb b 44) line) >>= λ numbers. clue_from cells numbers) ≡ Ok blocks → AreBlack blocks
    by_test true h = let is : [] ≡ blocks = cc in subst AreBlack is tt
    by_test false h = let numbers = bind_ok (numbers_in (slice_split (λ b. eqb b 44) line)) (λ numbers. clue_from cells numbers) blocks h in black_from cells numbers.0 blocks numbers.2

black_clues : (cells : ℕ) (lines : List (List ℕ)) (clues : List (List Block)) → clues_in cells lines ≡ Ok clues → All AreBlack clues
unfolding clues_in
black_clues cells [] clues e = let is : [] ≡ clues = cc in subst (All AreBlack) is (All-nil AreBlack)
black_clues cells (line ∷ lines) clues e =
    let first = bind_ok (clue_in cells line) (λ clue. clues_in cells lines >>= λ later. Ok (clue ∷ later)) clues e in
    let later = bind_ok (clues_in cells lines) (λ later. Ok (first.0 ∷ later)) clues first.2 in
    let is : first.0 ∷ later.0 ≡ clues = let last = later.2 in cc in
    subst (All AreBlack) is (All-cons AreBlack first.0 later.0 (black_clue cells line first.0 first.1) (black_clues cells lines later.0 later.1))

black_section : (n cells : ℕ) (lines : List (List ℕ)) (clues : List (List Block)) → section_clues n cells lines ≡ Ok clues → All AreBlack clues
black_section n cells lines clues e =
    let leaves = bind_ok (leaves_blanks n lines) (λ leaves. clues_in cells (take n (kept_lines leaves lines))) clues e in
    black_clues cells (take n (kept_lines leaves.0 lines)) clues leaves.2

black_behind : (word : List ℕ) (n cells : ℕ) (lines : List (List ℕ)) (clues : List (List Block)) → clues_behind word n cells lines ≡ Ok clues → All AreBlack clues
unfolding clues_behind
black_behind word n cells lines clues e = by_line (at_keyword word lines) e
  where
    by_line : (found : Option (List ℕ × List (List ℕ))) → found_clues n cells found ≡ Ok clues → All AreBlack clues
    by_line None h = cc
    by_line (Some found) h = black_section n cells (section_of found.1) clues h

-- ---- pictures with such clues

black_longer : (blocks : List Block) → AreBlack (longer blocks) → AreBlack blocks
black_longer [] are = tt
black_longer (b ∷ blocks) are = are

black_row : (row : List ℕ) → AreBlack (clue_of row) → (j : ℕ) → get_or row j 0 ≤ 1
black_row [] are j = omega (arith, get_or_past {X = ℕ} [] j 0 (omega arith))
black_row (zero ∷ row) are zero = omega arith
black_row (zero ∷ row) are (suc j) = black_row row are j
black_row (suc x ∷ []) are zero = let is = are.0 in omega (arith, is)
black_row (suc x ∷ []) are (suc j) = omega (arith, get_or_past {X = ℕ} [] j 0 (omega arith))
black_row (suc x ∷ y ∷ row) are j = by_test (eqb (suc x) y) refl (black_row (y ∷ row)) are j
  where
    by_test : (t : Bool) → eqb (suc x) y ≡ t → (AreBlack (clue_of (y ∷ row)) → (k : ℕ) → get_or (y ∷ row) k 0 ≤ 1)
        → AreBlack (cond t (longer (clue_of (y ∷ row))) (block 1 (suc x) ∷ clue_of (y ∷ row))) → (k : ℕ) → get_or (suc x ∷ y ∷ row) k 0 ≤ 1
    by_test true e later h zero =
        let next : y ≤ 1 = later (black_longer (clue_of (y ∷ row)) h) 0 in
        omega (arith, next, eqb-true (suc x) y e)
    by_test true e later h (suc k) = later (black_longer (clue_of (y ∷ row)) h) k
    by_test false e later h zero = let is = h.0 in omega (arith, is)
    by_test false e later h (suc k) = later h.1 k

black_picture : (rows : Rows) → All AreBlack (map clue_of rows) → (i j : ℕ) → cell_at rows i j ≤ 1
black_picture rows are i j = elim (cases_lt i (length rows)) [
  | inl lt ↦
      let black = All-get_or AreBlack (map clue_of rows) i [] (omega (arith, lt, length-map rows clue_of)) are in
      black_row (row_at rows i) (subst AreBlack (get_or-map clue_of rows i [] [] lt) black) j
  | inr past ↦
      let none : row_at rows i ≡ [] = get_or_past rows i [] past in
      subst (λ (row : List ℕ). get_or row j 0 ≤ 1) (sym none) (black_row [] tt j)
]

-- ---- a puzzle that is read

-- its clues are those that were read, and its goal has them
record HasGoal (clues : Clues) (puzzle : NonPuzzle) : Type 0 where
  are : puzzle.clues ≡ clues
  fits : (rows : Rows) → puzzle.goal ≡ Some rows → clues_of rows ≡ clues

goal_agrees : (clues : Clues) (goal : Option (List (List ℕ))) (puzzle : NonPuzzle) → agreeing clues goal ≡ Ok puzzle → HasGoal clues puzzle
unfolding agreeing
goal_agrees clues None puzzle e =
    let is : record { clues = clues; goal = None } ≡ puzzle = cc in
    record {
      are = sym (ap (λ (p : NonPuzzle). p.clues) is);
      fits = λ rows h. let none : None ≡ Some rows = ap (λ (p : NonPuzzle). p.goal) is ∙ h in cc;
    }
goal_agrees clues (Some goal) puzzle e = by_test (same_clues (clues_of goal) clues) refl e
  where
    by_test : (t : Bool) → same_clues (clues_of goal) clues ≡ t → chosen t (record { clues = clues; goal = Some goal }) ≡ Ok puzzle → HasGoal clues puzzle
    by_test true same h =
        let is : record { clues = clues; goal = Some goal } ≡ puzzle = cc in
        record {
          are = sym (ap (λ (p : NonPuzzle). p.clues) is);
          fits = λ rows g.
              let some : Some goal ≡ Some rows = ap (λ (p : NonPuzzle). p.goal) is ∙ g in
              let goal_is : goal ≡ rows = cc in
              subst (λ (r : List (List ℕ)). clues_of r ≡ clues) goal_is ((clues_decides (clues_of goal) clues).0 same);
        }
    by_test false same h = cc

-- what is read once both sizes are known, and once the width alone is
abbrev read_on : ℕ → ℕ → List (List ℕ) → Result NonPuzzle NonFault
read_on width height lines =
    clues_behind (codes "rows") height width lines >>= λ rows.
    clues_behind (codes "columns") width height lines >>= λ columns.
    goal_behind height width lines >>= λ goal.
    agreeing (clues_from rows columns) goal

abbrev read_behind : ℕ → List (List ℕ) → Result NonPuzzle NonFault
read_behind width lines = ok_or (size_behind (codes "height") lines) MissingSize >>= λ height. read_on width height lines

two_colours_on : (width height : ℕ) (lines : List (List ℕ)) (puzzle : NonPuzzle) → read_on width height lines ≡ Ok puzzle → IsInTwoColours puzzle
two_colours_on width height lines puzzle e =
    let rows = bind_ok (clues_behind (codes "rows") height width lines)
    (λ rows. clues_behind (codes "columns") width height lines >>= λ columns. goal_behind height width lines >>= λ goal. agreeing (clues_from rows columns) goal) puzzle e in
    let columns = bind_ok (clues_behind (codes "columns") width height lines) (λ columns. goal_behind height width lines >>= λ goal. agreeing (clues_from rows.0 columns) goal) puzzle rows.2 in
    let goal = bind_ok (goal_behind height width lines) (λ goal. agreeing (clues_from rows.0 columns.0) goal) puzzle columns.2 in
    let agrees = goal_agrees (clues_from rows.0 columns.0) goal.0 puzzle goal.2 in
    let are = black_behind (codes "rows") height width lines rows.0 rows.1 in
    record {
      goal_fits = λ picture h. agrees.fits picture h ∙ sym agrees.are;
      two_colours = λ picture h i j.
          let clues_are : rows.0 ≡ map clue_of picture = sym (ap (λ (c : Clues). c.rows) (h ∙ agrees.are)) in
          black_picture picture (subst (All AreBlack) clues_are are) i j;
    }

puzzle_in_two_colours : (lines : List (List ℕ)) (puzzle : NonPuzzle) → puzzle_of lines ≡ Ok puzzle → IsInTwoColours puzzle
unfolding puzzle_of
puzzle_in_two_colours lines puzzle e =
    let good = bind_ok (or_fault (first_fault [] lines)) (λ good. ok_or (size_behind (codes "width") lines) MissingSize >>= λ width. read_behind width lines) puzzle e in
    let width = bind_ok (ok_or (size_behind (codes "width") lines) MissingSize) (λ width. read_behind width lines) puzzle good.2 in
    let height = bind_ok (ok_or (size_behind (codes "height") lines) MissingSize) (λ height. read_on width.0 height lines) puzzle width.2 in
    two_colours_on width.0 height.0 lines puzzle height.2

pub in_two_colours : (text : List ℕ) (puzzle : NonPuzzle) → puzzle_of (lines_of text) ≡ Ok puzzle → IsInTwoColours puzzle
in_two_colours text puzzle e = puzzle_in_two_colours (lines_of text) puzzle e

-- The text that is written for a picture is read again.
use Rattle.std.proofs.Common.{◌≡◌, ℕ, ◌^◌, ◌<◌, ◌≤◌, Bool, true, false, cond, leb, List, [], ◌∷◌, ◌++◌, length, get_or, map, sum, Some, None, Ok, refl, sym, ap, ◌∙◌, arith, ◌&&◌, codes, decimal}
use Rattle.std.proofs.Common.{is_none, nat_eq}
use Rattle.std.specs.Option.{option_and_then}
use Rattle.std.specs.Cmp.Lexicographic.{pointwise}
use Rattle.std.specs.Str.{all_ascii_digits}
use Rattle.std.specs.Char.{is_ascii_digit}
use Rattle.std.specs.List.{flat_map}
use Rattle.std.proofs.lemmas.Bool.{le-leb, and_parts}
use Rattle.std.proofs.lemmas.List.{length-map}
use Rattle.std.proofs.lemmas.List.FromFn.{length-map-range_with_len}
use Rattle.picture.proofs.SplitLaws.{split_at}
use Rattle.picture.specs.declared.picture.TheConstants.{MAX_SIDE}
use Rattle.picture.specs.Readers.{◌>>=◌}
use Rattle.picture.specs.Rows.{width_of, Rows}
use Rattle.picture.specs.Picture.{IsPicture}
use Rattle.clues.specs.declared.block.Block.{Block}
use Rattle.clues.specs.Clue.{clue_of}
use Rattle.clues.specs.ClueBook.{clues_from, clues_of, columns_of}
use Rattle.non_text.specs.declared.seen.Seen.{Seen}
use Rattle.non_text.specs.declared.non_puzzle.NonPuzzle.{NonPuzzle}
use Rattle.non_text.specs.declared.fault.NonFault.TheVariants.{BadSize}
use Rattle.non_text.specs.Bytes.{before_blanks, is_blank, past_blanks, first_word, past_word}
use Rattle.non_text.specs.Lines.{is_blank_line, is_comment, lines_of, keyword_of, value_of, at_keyword}
use Rattle.non_text.specs.Section.{section_clues, found_clues, clues_behind}
use Rattle.non_text.specs.Goal.{quoted, goal_digits, goal_in}
use Rattle.non_text.specs.Puzzle.{size_within, size_in, first_fault, size_behind, found_goal, goal_behind, agreeing, puzzle_of}
use Rattle.non_text.specs.RoundTrip.{IsReadAgain}
use Rattle.non_text.specs.WrittenNon.{is_two_colour}
use Rattle.non_text.specs.Written.{clue_text, digit_of, goal_text, written_lines, non_text_of}
use Rattle.non_text.proofs.BytesLemmas.{before_blanks_other, past_blanks_blank}
use Rattle.picture.proofs.NumberLaws.{decimal_digits, digit_range, number_spelled-decimal}
use Rattle.non_text.proofs.ClueLineLemmas.{sum-cons}
use Rattle.non_text.proofs.DigitTexts.{trimmed_digits}
use Rattle.non_text.proofs.LinesLemmas.{at_keyword_found, at_keyword_later}
use Rattle.non_text.proofs.GoalLemmas.{goal_is}
use Rattle.non_text.proofs.SeenLemmas.{faults_first, faults_none}
use Rattle.non_text.proofs.PuzzleLemmas.{agreeing_same}
use Rattle.non_text.proofs.ClueTexts.{lens_of, small_sum, clue_text_begins, no_comment}
use Rattle.non_text.proofs.WrittenLines.{is_printed, printed_append, IsShown, AreShown, lines_of-written, ArePlain, at_keyword-plain, section_of-plain, faults_step, faults-plain, AreWritable}
use Rattle.non_text.proofs.WrittenLines.{plain_clues, section_clues-texts}
use Rattle.non_text.proofs.PictureTexts.{AreRows, are_rows, cell_digits, digits_printed, no_quotes, length-digits, rows_again, rows_writable, columns_writable}

-- ---- the steps of reading

pub puzzle_from : (lines : List (List ℕ)) (width height : ℕ) (rows columns : List (List Block)) (picture : Rows) (puzzle : NonPuzzle) → first_fault [] lines ≡ None
    → size_behind (codes "width") lines ≡ Some width → size_behind (codes "height") lines ≡ Some height
    → clues_behind (codes "rows") height width lines ≡ Ok rows → clues_behind (codes "columns") width height lines ≡ Ok columns → goal_behind height width lines ≡ Ok (Some picture)
    → agreeing (clues_from rows columns) (Some picture) ≡ Ok puzzle → puzzle_of lines ≡ Ok puzzle
unfolding puzzle_of
puzzle_from lines width height rows columns picture puzzle good is_wide is_high are_rows are_columns is_goal agrees = rw (good, is_wide, is_high, are_rows, are_columns, is_goal) agrees

-- ---- numbers on keyword lines

size_of-decimal : (n : ℕ) → 0 < n → n ≤ MAX_SIDE → size_in (decimal n) ≡ Some n
unfolding size_in
size_of-decimal n low high =
    ap (option_and_then size_within) (number_spelled-decimal n (omega arith))
    ∙ ap (λ t. cond (t && leb n MAX_SIDE) (Some n) None) (le-leb 1 n (omega arith)) ∙ ap (λ t. cond t (Some n) None) (le-leb n MAX_SIDE high)

abbrev width_line : ℕ → List ℕ
width_line n = codes "width " ++ decimal n

abbrev height_line : ℕ → List ℕ
height_line n = codes "height " ++ decimal n

width_keyword : (n : ℕ) → keyword_of (width_line n) ≡ codes "width"
unfolding keyword_of past_blanks first_word is_blank
width_keyword n = refl

height_keyword : (n : ℕ) → keyword_of (height_line n) ≡ codes "height"
unfolding keyword_of past_blanks first_word is_blank
height_keyword n = refl

rows_keyword : keyword_of (codes "rows") ≡ codes "rows"
unfolding keyword_of past_blanks first_word is_blank
rows_keyword = refl

columns_keyword : keyword_of (codes "columns") ≡ codes "columns"
unfolding keyword_of past_blanks first_word is_blank
columns_keyword = refl

goal_keyword : (bytes : List ℕ) → keyword_of (codes "goal " ++ bytes) ≡ codes "goal"
unfolding keyword_of past_blanks first_word is_blank
goal_keyword bytes = refl

width_value : (n : ℕ) → n < 2 ^ 64 → value_of (width_line n) ≡ decimal n
unfolding value_of past_blanks past_word is_blank
width_value n small = ap before_blanks (past_blanks_blank 32 (decimal n) refl) ∙ trimmed_digits (decimal n) (decimal_digits n small)

height_value : (n : ℕ) → n < 2 ^ 64 → value_of (height_line n) ≡ decimal n
unfolding value_of past_blanks past_word is_blank
height_value n small = ap before_blanks (past_blanks_blank 32 (decimal n) refl) ∙ trimmed_digits (decimal n) (decimal_digits n small)

width_size : (n : ℕ) → 0 < n → n ≤ MAX_SIDE → size_in (value_of (width_line n)) ≡ Some n
width_size n low high = ap size_in (width_value n (omega arith)) ∙ size_of-decimal n low high

height_size : (n : ℕ) → 0 < n → n ≤ MAX_SIDE → size_in (value_of (height_line n)) ≡ Some n
height_size n low high = ap size_in (height_value n (omega arith)) ∙ size_of-decimal n low high

-- ---- the written lines

abbrev lines_behind_rows : List (List Block) → List ℕ → List (List ℕ)
lines_behind_rows columns goal = codes "columns" ∷ (map clue_text columns ++ goal ∷ [])

abbrev lines_from : ℕ → ℕ → List (List Block) → List (List Block) → List ℕ → List (List ℕ)
lines_from width height rows columns goal = width_line width ∷ height_line height ∷ codes "rows" ∷ (map clue_text rows ++ lines_behind_rows columns goal)

-- a line with another keyword is skipped
passed : (word found line : List ℕ) (lines : List (List ℕ)) → keyword_of line ≡ found → pointwise nat_eq found word ≡ false → at_keyword word (line ∷ lines) ≡ at_keyword word lines
passed word found line lines keyword other = at_keyword_later word line lines (ap (λ (w : List ℕ). pointwise nat_eq w word) keyword ∙ other)

met : (word line : List ℕ) (lines : List (List ℕ)) → keyword_of line ≡ word → pointwise nat_eq word word ≡ true → at_keyword word (line ∷ lines) ≡ Some (line, lines)
met word line lines keyword same = at_keyword_found word line lines (ap (λ (w : List ℕ). pointwise nat_eq w word) keyword ∙ same)

abbrev seen_as : Bool → Bool → Bool → Bool → Seen
seen_as width height rows columns = record { width = width; height = height; rows = rows; columns = columns }

-- what is known of the parts of a text
record AreParts (width height : ℕ) (rows columns : List (List Block)) (goal : List ℕ) : Type 0 where
  wide : 0 < width
  wide_fits : width ≤ MAX_SIDE
  high : 0 < height
  high_fits : height ≤ MAX_SIDE
  rows_are : AreWritable width rows
  rows_count : length rows ≡ height
  columns_are : AreWritable height columns
  columns_count : length columns ≡ width
  goal_is : keyword_of goal ≡ codes "goal"

module _ (width height : ℕ) (rows columns : List (List Block)) (goal : List ℕ) (are : AreParts width height rows columns goal) where
  plain_rows : ArePlain (map clue_text rows)
  plain_rows = plain_clues width rows are.wide_fits are.rows_are

  plain_columns : ArePlain (map clue_text columns)
  plain_columns = plain_clues height columns are.high_fits are.columns_are

  no_fault : first_fault [] (lines_from width height rows columns goal) ≡ None
  no_fault =
      sym (faults_first (seen_as false false false false) (lines_from width height rows columns goal) refl refl refl refl)
      ∙ faults_step (seen_as false false false false) (seen_as true false false false) (codes "width") (width_line width) _ (width_keyword width)
      (ap (λ o. cond (is_none o) (Some BadSize) None) (width_size width are.wide are.wide_fits)) refl
      ∙ faults_step (seen_as true false false false) (seen_as true true false false) (codes "height") (height_line height) _ (height_keyword height)
      (ap (λ o. cond (is_none o) (Some BadSize) None) (height_size height are.high are.high_fits)) refl
      ∙ faults_step (seen_as true true false false) (seen_as true true true false) (codes "rows") (codes "rows") _ rows_keyword refl refl
      ∙ faults-plain (seen_as true true true false) (map clue_text rows) (lines_behind_rows columns goal) plain_rows
      ∙ faults_step (seen_as true true true false) (seen_as true true true true) (codes "columns") (codes "columns") _ columns_keyword refl refl
      ∙ faults-plain (seen_as true true true true) (map clue_text columns) (goal ∷ []) plain_columns
      ∙ faults_step (seen_as true true true true) (seen_as true true true true) (codes "goal") goal [] are.goal_is refl refl
      ∙ faults_none (seen_as true true true true)

  width_found : size_behind (codes "width") (lines_from width height rows columns goal) ≡ Some width
  unfolding size_behind
  width_found =
      ap (option_and_then (λ found. size_in (value_of found.0))) (met (codes "width") (width_line width) _ (width_keyword width) refl)
      ∙ width_size width are.wide are.wide_fits

  height_found : size_behind (codes "height") (lines_from width height rows columns goal) ≡ Some height
  unfolding size_behind
  height_found =
      ap (option_and_then (λ found. size_in (value_of found.0)))
      (passed (codes "height") (codes "width") (width_line width) _ (width_keyword width) refl ∙ met (codes "height") (height_line height) _ (height_keyword height) refl)
      ∙ height_size height are.high are.high_fits

  rows_found : clues_behind (codes "rows") height width (lines_from width height rows columns goal) ≡ Ok rows
  unfolding clues_behind
  rows_found =
      ap (found_clues height width)
      (passed (codes "rows") (codes "width") (width_line width) _ (width_keyword width) refl
      ∙ passed (codes "rows") (codes "height") (height_line height) _ (height_keyword height) refl
      ∙ met (codes "rows") (codes "rows") _ rows_keyword refl)
      ∙ ap (λ (lines : List (List ℕ)). section_clues height width lines)
      (section_of-plain (map clue_text rows) (codes "columns") (map clue_text columns ++ goal ∷ []) plain_rows (omega (arith, ap length columns_keyword)))
      ∙ section_clues-texts height width rows are.wide_fits are.rows_are are.rows_count

  columns_found : clues_behind (codes "columns") width height (lines_from width height rows columns goal) ≡ Ok columns
  unfolding clues_behind
  columns_found =
      ap (found_clues width height)
      (passed (codes "columns") (codes "width") (width_line width) _ (width_keyword width) refl
      ∙ passed (codes "columns") (codes "height") (height_line height) _ (height_keyword height) refl
      ∙ passed (codes "columns") (codes "rows") (codes "rows") _ rows_keyword refl
      ∙ at_keyword-plain 99 (codes "olumns") (map clue_text rows) (lines_behind_rows columns goal) plain_rows
      ∙ met (codes "columns") (codes "columns") _ columns_keyword refl)
      ∙ ap (λ (lines : List (List ℕ)). section_clues width height lines) (section_of-plain (map clue_text columns) goal [] plain_columns (omega (arith, ap length are.goal_is)))
      ∙ section_clues-texts width height columns are.high_fits are.columns_are are.columns_count

  goal_found : at_keyword (codes "goal") (lines_from width height rows columns goal) ≡ Some (goal, [])
  goal_found =
      passed (codes "goal") (codes "width") (width_line width) _ (width_keyword width) refl
      ∙ passed (codes "goal") (codes "height") (height_line height) _ (height_keyword height) refl
      ∙ passed (codes "goal") (codes "rows") (codes "rows") _ rows_keyword refl
      ∙ at_keyword-plain 103 (codes "oal") (map clue_text rows) (lines_behind_rows columns goal) plain_rows
      ∙ passed (codes "goal") (codes "columns") (codes "columns") _ columns_keyword refl
      ∙ at_keyword-plain 103 (codes "oal") (map clue_text columns) (goal ∷ []) plain_columns
      ∙ met (codes "goal") goal [] are.goal_is refl

-- ---- the goal

goal_value : (digits : List ℕ) → value_of (codes "goal " ++ 34 ∷ (digits ++ 34 ∷ [])) ≡ 34 ∷ (digits ++ 34 ∷ [])
unfolding value_of past_blanks past_word is_blank
goal_value digits = before_blanks_other (34 ∷ digits) 34 refl

goal_digits-quoted : (rows : Rows) → goal_digits (34 ∷ (flat_map (map digit_of) rows ++ 34 ∷ [])) ≡ Some (flat_map (map digit_of) rows)
unfolding goal_digits is_blank_line past_blanks
goal_digits-quoted rows = ap quoted (split_at 34 (flat_map (map digit_of) rows) [] (no_quotes rows))

goal_again : (width : ℕ) (rows : Rows) → AreRows width rows → goal_in (length rows) width (value_of (goal_text rows)) ≡ Ok rows
goal_again width rows are =
    let digits = flat_map (map digit_of) rows in
    ap (goal_in (length rows) width) (goal_value digits)
    ∙ goal_is (length rows) width (34 ∷ (digits ++ 34 ∷ [])) digits (goal_digits-quoted rows) (length-digits width rows are) (cell_digits rows)
    ∙ ap Ok (rows_again width rows are)

-- ---- the lines of the text

digits_are_printed : (digits : List ℕ) → all_ascii_digits digits ≡ true → is_printed digits ≡ true
digits_are_printed [] e = refl
digits_are_printed (d ∷ digits) e =
    let parts = and_parts (is_ascii_digit d) (all_ascii_digits digits) e in
    let range = digit_range d parts.0 in
    ap (λ t. t && is_printed digits) (le-leb 32 d (omega (arith, range.0))) ∙ digits_are_printed digits parts.1

decimal_printed : (n : ℕ) → n < 2 ^ 64 → is_printed (decimal n) ≡ true
decimal_printed n small = digits_are_printed (decimal n) (decimal_digits n small)

clue_printed : (clue : List Block) → sum (lens_of clue) < 2 ^ 64 → is_printed (clue_text clue) ≡ true
clue_printed [] small = refl
clue_printed (b ∷ []) small = decimal_printed b.len (omega (arith, small, sum-cons b.len []))
clue_printed (b ∷ next ∷ blocks) small =
    let parts = sum-cons b.len (lens_of (next ∷ blocks)) in
    printed_append (decimal b.len) (44 ∷ clue_text (next ∷ blocks)) (decimal_printed b.len (omega (arith, small, parts))) (clue_printed (next ∷ blocks) (omega (arith, small, parts)))

clues_shown : (cells : ℕ) (clues : List (List Block)) (rest : List (List ℕ)) → cells ≤ MAX_SIDE → AreWritable cells clues → AreShown rest → AreShown (map clue_text clues ++ rest)
clues_shown cells [] rest small are shown = shown
clues_shown cells (clue ∷ clues) rest small are shown =
    let few = small_sum cells clue are.0 small in
    (record { printed = clue_printed clue few; no_comment = no_comment (clue_text clue) (clue_text_begins clue few) }, clues_shown cells clues rest small are.1 shown)

width_shown : (n : ℕ) → n < 2 ^ 64 → IsShown (width_line n)
unfolding is_comment past_blanks is_blank
width_shown n small = record { printed = printed_append (codes "width ") (decimal n) refl (decimal_printed n small); no_comment = refl }

height_shown : (n : ℕ) → n < 2 ^ 64 → IsShown (height_line n)
unfolding is_comment past_blanks is_blank
height_shown n small = record { printed = printed_append (codes "height ") (decimal n) refl (decimal_printed n small); no_comment = refl }

rows_shown : IsShown (codes "rows")
unfolding is_comment past_blanks is_blank
rows_shown = record { printed = refl; no_comment = refl }

columns_shown : IsShown (codes "columns")
unfolding is_comment past_blanks is_blank
columns_shown = record { printed = refl; no_comment = refl }

goal_shown : (rows : Rows) → IsShown (goal_text rows)
unfolding is_comment past_blanks is_blank
goal_shown rows = record { printed = printed_append (flat_map (map digit_of) rows) (34 ∷ []) (digits_printed rows) refl; no_comment = refl }

-- ---- the whole

parts_are : (rows : Rows) → IsPicture rows → AreRows (width_of rows) rows → AreParts (width_of rows) (length rows) (clues_of rows).rows (clues_of rows).columns (goal_text rows)
parts_are rows picture are = record {
  wide = picture.has_column;
  wide_fits = picture.columns_fit;
  high = picture.has_row;
  high_fits = picture.rows_fit;
  rows_are = rows_writable (width_of rows) rows are;
  rows_count = length-map rows clue_of;
  columns_are = columns_writable (width_of rows) rows are;
  columns_count = length-map (columns_of rows) clue_of ∙ length-map-range_with_len (λ j. map (λ (row : List ℕ). get_or row j 0) rows) 0 (width_of rows);
  goal_is = goal_keyword (34 ∷ (flat_map (map digit_of) rows ++ 34 ∷ []));
}

lines_again : (rows : Rows) → IsPicture rows → AreRows (width_of rows) rows → lines_of (non_text_of rows) ≡ written_lines rows
unfolding non_text_of
lines_again rows picture are =
    let clues = clues_of rows in
    let wide = picture.columns_fit in
    let high = picture.rows_fit in
    let last : AreShown (goal_text rows ∷ []) = (goal_shown rows, tt) in
    let columns = clues_shown (length rows) clues.columns (goal_text rows ∷ []) high (columns_writable (width_of rows) rows are) last in
    let all_rows = clues_shown (width_of rows) clues.rows (lines_behind_rows clues.columns (goal_text rows)) wide (rows_writable (width_of rows) rows are) (columns_shown, columns) in
    lines_of-written (written_lines rows) (width_shown (width_of rows) (omega (arith, wide)), (height_shown (length rows) (omega (arith, high)), (rows_shown, all_rows)))

-- where no cell has a colour above 1, reading the written text gives the picture's clues, and the picture as the goal
pub read_again : (rows : Rows) → IsPicture rows → is_two_colour rows ≡ true → IsReadAgain rows
unfolding goal_behind
read_again rows picture two =
    let width = width_of rows in
    let clues = clues_of rows in
    let goal = goal_text rows in
    let are = are_rows width rows picture.rectangular two in
    let parts = parts_are rows picture are in
    let goal_is = ap (found_goal (length rows) width) (goal_found width (length rows) clues.rows clues.columns goal parts)
    ∙ ap (λ read. read >>= λ picture. Ok (Some picture)) (goal_again width rows are) in
    ap puzzle_of (lines_again rows picture are)
    ∙ puzzle_from (written_lines rows) width (length rows) clues.rows clues.columns rows (record { clues = clues; goal = Some rows })
    (no_fault width (length rows) clues.rows clues.columns goal parts)
    (width_found width (length rows) clues.rows clues.columns goal parts)
    (height_found width (length rows) clues.rows clues.columns goal parts)
    (rows_found width (length rows) clues.rows clues.columns goal parts)
    (columns_found width (length rows) clues.rows clues.columns goal parts)
    goal_is
    (agreeing_same clues rows refl)

pub ruleset again = (read_again)

-- The lines of a written text, found again.
use Rattle.std.proofs.Common.{◌≡◌, ◌≢◌, ℕ, zero, suc, ◌-◌, ◌<◌, ◌≤◌, Bool, true, false, cond, not, eqb, leb, List, [], ◌∷◌, ◌++◌, length, get_or, take, drop, map, Option, Some, None, Ok, Err, refl}
use Rattle.std.proofs.Common.{ap, ◌∙◌, arith, ◌&&◌, ◌||◌, codes, filter, nat_eq, is_none}
use Rattle.std.specs.Cmp.Lexicographic.{pointwise}
use Rattle.std.specs.List.{slice_split, flat_map, list_all, list_any, All}
use Rattle.std.specs.Str.Lines.{strip_carriage_return}
use Rattle.std.proofs.lemmas.Bool.{leb-true, ne_eqb, eq-eqb, and_from, and_parts}
use Rattle.std.proofs.lemmas.List.{append_assoc, get_or_past, length-map, take_all}
use Rattle.std.proofs.lemmas.List.Elements.{All-nil, All-cons}
use Rattle.std.proofs.lemmas.List.Folds.{list_all-append}
use Rattle.std.proofs.lemmas.List.Splits.{slice_split_at}
use Rattle.picture.specs.declared.picture.TheConstants.{MAX_SIDE}
use Rattle.picture.specs.Readers.{◌>>=◌}
use Rattle.clues.specs.declared.block.Block.{Block}
use Rattle.non_text.specs.declared.seen.Seen.{Seen}
use Rattle.non_text.specs.declared.fault.NonFault.{NonFault}
use Rattle.non_text.specs.declared.fault.NonFault.TheVariants.{Repeated, BadSize, BadCount}
use Rattle.non_text.specs.Lines.{all_lines, is_comment, lines_of, keyword_of, value_of, has_keyword, at_keyword, section_of}
use Rattle.non_text.specs.ClueLine.{clues_in}
use Rattle.non_text.specs.Section.{is_full_line, leaves_blanks, kept_lines, section_clues}
use Rattle.non_text.specs.Puzzle.{size_in, first_of_two}
use Rattle.non_text.specs.Seen.{seen_with, fault_below}
use Rattle.non_text.specs.Written.{clue_text}
use Rattle.non_text.proofs.LinesLemmas.{all_lines_more, all_lines_none, lines_of_shown, lines_of_none, at_keyword_later, section_more, section_end}
use Rattle.non_text.proofs.TextLemmas.{ended_line}
use Rattle.non_text.proofs.SeenLemmas.{faults_below}
use Rattle.non_text.proofs.ClueTexts.{BeginsDigit, full_line, no_keyword, IsWritable, small_sum, clue_text_begins, clue_in-clue_text}

-- ---- lines

-- no byte is below the space: so there is no line feed and no carriage return
abbrev pub is_printed : List ℕ → Bool
is_printed line = list_all (λ b. leb 32 b) line

pub printed_append : (xs ys : List ℕ) → is_printed xs ≡ true → is_printed ys ≡ true → is_printed (xs ++ ys) ≡ true
printed_append xs ys ex ey = list_all-append (λ b. leb 32 b) xs ys ∙ and_from (is_printed xs) (is_printed ys) ex ey

no_feed : (line : List ℕ) → is_printed line ≡ true → All (λ b. eqb b 10 ≡ false) line
no_feed [] e = All-nil (λ b. eqb b 10 ≡ false)
no_feed (b ∷ line) e =
    let parts = and_parts (leb 32 b) (is_printed line) e in
    let high = leb-true 32 b parts.0 in
    All-cons (λ b. eqb b 10 ≡ false) b line (ne_eqb b 10 (omega (arith, high))) (no_feed line parts.1)

last_printed : (line : List ℕ) (i : ℕ) → is_printed line ≡ true → get_or line i 0 ≢ 13
last_printed [] i e = λ h. absurd (omega (arith, h, get_or_past {X = ℕ} [] i 0 (omega arith)))
last_printed (b ∷ line) zero e = let high = leb-true 32 b (and_parts (leb 32 b) (is_printed line) e).0 in omega (arith, high)
last_printed (b ∷ line) (suc i) e = last_printed line i (and_parts (leb 32 b) (is_printed line) e).1

nothing_stripped : (line : List ℕ) → is_printed line ≡ true → strip_carriage_return line ≡ line
nothing_stripped line e =
    ap (λ t. cond t (take (length line - 1) line) line) (ne_eqb (get_or line (length line - 1) 0) 13 (last_printed line (length line - 1) e))

-- a line that is found as it was written
pub record IsShown (line : List ℕ) : Type 0 where
  pub printed : is_printed line ≡ true
  pub no_comment : is_comment line ≡ false

abbrev pub AreShown : List (List ℕ) → Type 0
AreShown [] = Unit {0}
AreShown (line ∷ lines) = IsShown line × AreShown lines

ended_split : (line rest : List ℕ) → is_printed line ≡ true → slice_split (λ b. eqb b 10) (ended_line line ++ rest) ≡ line ∷ slice_split (λ b. eqb b 10) rest
ended_split line rest e =
    ap (slice_split (λ b. eqb b 10)) (append_assoc line (10 ∷ []) rest) ∙ slice_split_at (λ b. eqb b 10) line 10 rest (no_feed line e) refl

pub lines_of-written : (lines : List (List ℕ)) → AreShown lines → lines_of (flat_map ended_line lines) ≡ lines
lines_of-written [] shown = lines_of_none [] all_lines_none
lines_of-written (line ∷ lines) shown =
    let rest = flat_map ended_line lines in
    let first = all_lines_more (ended_line line ++ rest) line rest (ended_split line rest shown.0.printed) ∙ ap (λ (l : List ℕ). l ∷ all_lines rest) (nothing_stripped line shown.0.printed) in
    lines_of_shown (ended_line line ++ rest) line rest first shown.0.no_comment ∙ ap (λ (others : List (List ℕ)). line ∷ others) (lines_of-written lines shown.1)

-- ---- clue lines among others

abbrev pub ArePlain : List (List ℕ) → Type 0
ArePlain [] = Unit {0}
ArePlain (line ∷ lines) = BeginsDigit line × ArePlain lines

no_match : (first : ℕ) (word line : List ℕ) → BeginsDigit line → has_keyword (first ∷ word) line ≡ false
no_match first word line plain = ap (λ (found : List ℕ). pointwise nat_eq found (first ∷ word)) (no_keyword line plain)

-- a keyword is found after them
pub at_keyword-plain : (first : ℕ) (word : List ℕ) (lines rest : List (List ℕ)) → ArePlain lines → at_keyword (first ∷ word) (lines ++ rest) ≡ at_keyword (first ∷ word) rest
at_keyword-plain first word [] rest plain = refl
at_keyword-plain first word (line ∷ lines) rest plain =
    at_keyword_later (first ∷ word) line (lines ++ rest) (no_match first word line plain.0) ∙ at_keyword-plain first word lines rest plain.1

-- a section ends after them
pub section_of-plain : (lines : List (List ℕ)) (line : List ℕ) (rest : List (List ℕ)) → ArePlain lines → 0 < length (keyword_of line) → section_of (lines ++ line ∷ rest) ≡ lines
section_of-plain [] line rest plain keyword = section_end line rest keyword
section_of-plain (clue ∷ lines) line rest plain keyword =
    section_more clue (lines ++ line ∷ rest) (ap length (no_keyword clue plain.0)) ∙ ap (λ (others : List (List ℕ)). clue ∷ others) (section_of-plain lines line rest plain.1 keyword)

-- the error of a line, by its keyword and by whether its value is not a size
abbrev pub fault_by : List ℕ → Bool → Seen → Option NonFault
fault_by word bad seen =
    cond (((pointwise nat_eq word (codes "width") && seen.width) || (pointwise nat_eq word (codes "height") && seen.height))
    || ((pointwise nat_eq word (codes "rows") && seen.rows) || (pointwise nat_eq word (codes "columns") && seen.columns)))
    (Some Repeated) (cond ((pointwise nat_eq word (codes "width") || pointwise nat_eq word (codes "height")) && bad) (Some BadSize) None)

-- the keywords with one more
abbrev pub seen_by : List ℕ → Seen → Seen
seen_by word seen = record {
  width = pointwise nat_eq word (codes "width") || seen.width;
  height = pointwise nat_eq word (codes "height") || seen.height;
  rows = pointwise nat_eq word (codes "rows") || seen.rows;
  columns = pointwise nat_eq word (codes "columns") || seen.columns;
}

-- a line without an error
pub faults_step : (seen next : Seen) (word line : List ℕ) (lines : List (List ℕ)) → keyword_of line ≡ word → fault_by word (is_none (size_in (value_of line))) seen ≡ None → seen_by word seen ≡ next
    → faults_below seen (line ∷ lines) ≡ faults_below next lines
unfolding faults_below fault_below
faults_step seen next word line lines keyword good more =
    ap (λ fault. first_of_two fault (faults_below (seen_with seen line) lines)) (ap (λ (w : List ℕ). fault_by w (is_none (size_in (value_of line))) seen) keyword ∙ good)
    ∙ ap (λ (s : Seen). faults_below s lines) (ap (λ (w : List ℕ). seen_by w seen) keyword ∙ more)

-- clue lines have no error, and no keyword
pub faults-plain : (seen : Seen) (lines rest : List (List ℕ)) → ArePlain lines → faults_below seen (lines ++ rest) ≡ faults_below seen rest
faults-plain seen [] rest plain = refl
faults-plain seen (line ∷ lines) rest plain =
    faults_step seen seen [] line (lines ++ rest) (no_keyword line plain.0) refl refl ∙ faults-plain seen lines rest plain.1

-- ---- clue lines

abbrev pub AreWritable : ℕ → List (List Block) → Type 0
AreWritable cells [] = Unit {0}
AreWritable cells (clue ∷ clues) = IsWritable cells clue × AreWritable cells clues

pub plain_clues : (cells : ℕ) (clues : List (List Block)) → cells ≤ MAX_SIDE → AreWritable cells clues → ArePlain (map clue_text clues)
plain_clues cells [] small are = tt
plain_clues cells (clue ∷ clues) small are =
    (clue_text_begins clue (small_sum cells clue are.0 small), plain_clues cells clues small are.1)

clues_in-texts : (cells : ℕ) (clues : List (List Block)) → cells ≤ MAX_SIDE → AreWritable cells clues → clues_in cells (map clue_text clues) ≡ Ok clues
unfolding clues_in
clues_in-texts cells [] small are = refl
clues_in-texts cells (clue ∷ clues) small are =
    ap (λ read. read >>= λ first. clues_in cells (map clue_text clues) >>= λ others. Ok (first ∷ others)) (clue_in-clue_text cells clue are.0 small)
    ∙ ap (λ read. read >>= λ others. Ok (clue ∷ others)) (clues_in-texts cells clues small are.1)

all_full : (lines : List (List ℕ)) → ArePlain lines → filter is_full_line lines ≡ lines
all_full [] plain = refl
all_full (line ∷ lines) plain =
    ap (λ t. cond (not t) (line ∷ filter is_full_line lines) (filter is_full_line lines)) (full_line line plain.0)
    ∙ ap (λ (others : List (List ℕ)). line ∷ others) (all_full lines plain.1)

leaves-full : (n : ℕ) (lines : List (List ℕ)) → ArePlain lines → length lines ≡ n → leaves_blanks n lines ≡ Ok true
unfolding leaves_blanks
leaves-full n lines plain e =
    ap (λ t. cond t (Ok true) (cond (leb n (length lines) && not (list_any is_full_line (drop n lines))) (Ok false) (Err BadCount))) (eq-eqb _ _ (ap length (all_full lines plain) ∙ e))

-- a section of written clues is read again
pub section_clues-texts : (n cells : ℕ) (clues : List (List Block)) → cells ≤ MAX_SIDE → AreWritable cells clues → length clues ≡ n → section_clues n cells (map clue_text clues) ≡ Ok clues
section_clues-texts n cells clues small are e =
    let texts = map clue_text clues in
    let plain = plain_clues cells clues small are in
    let count : length texts ≡ n = length-map clues clue_text ∙ e in
    ap (λ read. read >>= λ leaves. clues_in cells (take n (kept_lines leaves texts))) (leaves-full n texts plain count)
    ∙ ap (λ (lines : List (List ℕ)). clues_in cells (take n lines)) (all_full texts plain)
    ∙ ap (clues_in cells) (take_all n texts (omega (arith, count)))
    ∙ clues_in-texts cells clues small are

-- Clues as they are written, read again.
use Rattle.std.proofs.Common.{◌≡◌, ℕ, zero, suc, ◌+◌, ◌^◌, ◌<◌, ◌≤◌, Bool, true, false, cond, eqb, leb, List, [], ◌∷◌, ◌++◌, length, map, sum, Option, Some, Result, Ok, refl, sym, ap, subst, ◌∙◌}
use Rattle.std.proofs.Common.{arith, ◌&&◌, ◌||◌, decimal}
use Rattle.std.specs.Char.{is_ascii_digit}
use Rattle.std.specs.Str.{all_ascii_digits}
use Rattle.std.specs.List.{slice_split, All}
use Rattle.std.specs.Option.{ok_or}
use Rattle.std.proofs.lemmas.Bool.{le-leb, lt-leb, eq-eqb, ne_eqb, and_parts}
use Rattle.std.proofs.lemmas.Fmt.{decimal_nonempty}
use Rattle.std.proofs.lemmas.List.{length-map}
use Rattle.std.proofs.lemmas.List.Splits.{slice_split_none, slice_split_at}
use Rattle.picture.specs.declared.picture.TheConstants.{MAX_SIDE}
use Rattle.picture.specs.Readers.{◌>>=◌}
use Rattle.clues.specs.declared.block.Block.{Block}
use Rattle.clues.specs.Clue.{block, longer, clue_of}
use Rattle.non_text.specs.declared.fault.NonFault.{NonFault}
use Rattle.non_text.specs.declared.fault.NonFault.TheVariants.{BadClue}
use Rattle.non_text.specs.Bytes.{is_empty, is_blank, past_blanks, before_blanks, first_word}
use Rattle.picture.specs.Numbers.{value_after, number_spelled}
use Rattle.non_text.specs.Lines.{begins_comment, is_blank_line, is_comment, word_at, keyword_of}
use Rattle.non_text.specs.ClueLine.{numbers_in, is_lone_zero, has_zero, cells_needed, black, clue_from, clue_in}
use Rattle.non_text.specs.Written.{clue_text}
use Rattle.picture.proofs.NumberLaws.{decimal_digits, decimal_lacks, digit_range}
use Rattle.picture.proofs.SplitLaws.{none_there}
use Rattle.non_text.proofs.ClueLineLemmas.{chosen, sum-cons}
use Rattle.non_text.proofs.DigitTexts.{digit_not_blank, number_again}
use Rattle.non_text.proofs.BytesLemmas.{past_blanks_other}

abbrev pub lens_of : List Block → List ℕ
lens_of blocks = map (λ (b : Block). b.len) blocks

-- blocks with cells, in the only colour
abbrev pub AreBlack : List Block → Type 0
AreBlack [] = Unit {0}
AreBlack (b ∷ blocks) = (0 < b.len) × (b.colour ≡ 1) × AreBlack blocks

-- a clue that can be written for a line of `cells` cells
pub record IsWritable (cells : ℕ) (clue : List Block) : Type 0 where
  pub black : AreBlack clue
  pub fits : cells_needed (lens_of clue) ≤ cells

-- ---- the numbers

no_comma : (n : ℕ) → n < 2 ^ 64 → All (λ b. eqb b 44 ≡ false) (decimal n)
no_comma n small = none_there 44 (decimal n) (decimal_lacks 44 n (omega arith) small)

-- the places between the commas are the numbers
places_are : (b : Block) (blocks : List Block) → sum (lens_of (b ∷ blocks)) < 2 ^ 64 → slice_split (λ c. eqb c 44) (clue_text (b ∷ blocks)) ≡ map (λ (o : Block). decimal o.len) (b ∷ blocks)
places_are b [] small =
    slice_split_none (λ c. eqb c 44) (decimal b.len) (no_comma b.len (omega (arith, small, sum-cons b.len [])))
places_are b (next ∷ blocks) small =
    let parts = sum-cons b.len (lens_of (next ∷ blocks)) in
    slice_split_at (λ c. eqb c 44) (decimal b.len) 44 (clue_text (next ∷ blocks)) (no_comma b.len (omega (arith, small, parts))) refl
    ∙ ap (λ (pieces : List (List ℕ)). decimal b.len ∷ pieces) (places_are next blocks (omega (arith, small, parts)))

-- the number of a place, and then the others
abbrev numbers_behind : Option ℕ → Result (List ℕ) NonFault → Result (List ℕ) NonFault
numbers_behind first later = ok_or first BadClue >>= λ n. later >>= λ ns. Ok (n ∷ ns)

numbers_are : (blocks : List Block) → sum (lens_of blocks) < 2 ^ 64 → numbers_in (map (λ (o : Block). decimal o.len) blocks) ≡ Ok (lens_of blocks)
numbers_are [] small = refl
numbers_are (b ∷ blocks) small =
    let parts = sum-cons b.len (lens_of blocks) in
    ap (λ first. numbers_behind first (numbers_in (map (λ (o : Block). decimal o.len) blocks))) (number_again b.len (omega (arith, small, parts)))
    ∙ ap (λ later. numbers_behind (Some b.len) later) (numbers_are blocks (omega (arith, small, parts)))

none_zero : (blocks : List Block) → AreBlack blocks → has_zero (lens_of blocks) ≡ false
none_zero [] black = refl
none_zero (b ∷ blocks) black =
    let some = black.0 in
    ap (λ t. t || has_zero (lens_of blocks)) (ne_eqb b.len 0 (omega (arith, some))) ∙ none_zero blocks black.2

not_lone_zero : (b : Block) (blocks : List Block) → 0 < b.len → is_lone_zero (lens_of (b ∷ blocks)) ≡ false
not_lone_zero b [] some = ne_eqb b.len 0 (omega (arith, some))
not_lone_zero b (next ∷ blocks) some = refl

black_again : (blocks : List Block) → AreBlack blocks → map (λ n. black n) (lens_of blocks) ≡ blocks
black_again [] is = refl
black_again (b ∷ blocks) is =
    ap (λ colour. block b.len colour ∷ map (λ n. black n) (lens_of blocks)) (sym is.1) ∙ ap (λ (rest : List Block). b ∷ rest) (black_again blocks is.2)

clue_from-lens : (cells : ℕ) (b : Block) (blocks : List Block) → IsWritable cells (b ∷ blocks) → clue_from cells (lens_of (b ∷ blocks)) ≡ Ok (b ∷ blocks)
unfolding clue_from
clue_from-lens cells b blocks is =
    let lens = lens_of (b ∷ blocks) in
    ap (λ t. chosen t (has_zero lens) (leb (cells_needed lens) cells) (map black lens)) (not_lone_zero b blocks is.black.0)
    ∙ ap (λ t. chosen false t (leb (cells_needed lens) cells) (map black lens)) (none_zero (b ∷ blocks) is.black)
    ∙ ap (λ t. chosen false false t (map black lens)) (le-leb _ _ is.fits)
    ∙ ap Ok (black_again (b ∷ blocks) is.black)

-- ---- the text of a clue as a line

-- the first byte is a digit
abbrev pub BeginsDigit : List ℕ → Type 0
BeginsDigit [] = ⊥
BeginsDigit (d ∷ bytes) = is_ascii_digit d ≡ true

begins_digits : (digits : List ℕ) → 0 < length digits → all_ascii_digits digits ≡ true → BeginsDigit digits
begins_digits [] some e = omega (arith, some)
begins_digits (d ∷ digits) some e = (and_parts (is_ascii_digit d) (all_ascii_digits digits) e).0

begins_append : (xs ys : List ℕ) → BeginsDigit xs → BeginsDigit (xs ++ ys)
begins_append [] ys begins = absurd begins
begins_append (x ∷ xs) ys begins = begins

begins_decimal : (n : ℕ) → n < 2 ^ 64 → BeginsDigit (decimal n)
begins_decimal n small = begins_digits (decimal n) (decimal_nonempty n small) (decimal_digits n small)

pub clue_text_begins : (clue : List Block) → sum (lens_of clue) < 2 ^ 64 → BeginsDigit (clue_text clue)
clue_text_begins [] small = refl
clue_text_begins (b ∷ []) small = begins_decimal b.len (omega (arith, small, sum-cons b.len []))
clue_text_begins (b ∷ next ∷ blocks) small =
    begins_append (decimal b.len) (44 ∷ clue_text (next ∷ blocks)) (begins_decimal b.len (omega (arith, small, sum-cons b.len (lens_of (next ∷ blocks)))))

pub full_line : (line : List ℕ) → BeginsDigit line → is_blank_line line ≡ false
unfolding is_blank_line
full_line [] begins = absurd begins
full_line (d ∷ line) begins = ap is_empty (past_blanks_other d line (digit_not_blank d begins))

pub no_comment : (line : List ℕ) → BeginsDigit line → is_comment line ≡ false
unfolding is_comment
no_comment [] begins = absurd begins
no_comment (d ∷ line) begins =
    let range = digit_range d begins in
    ap begins_comment (past_blanks_other d line (digit_not_blank d begins)) ∙ ne_eqb d 35 (omega (arith, range.0))

pub no_keyword : (line : List ℕ) → BeginsDigit line → keyword_of line ≡ []
unfolding keyword_of
no_keyword [] begins = absurd begins
no_keyword (d ∷ line) begins =
    let range = digit_range d begins in
    ap word_at (past_blanks_other d line (digit_not_blank d begins))
    ∙ ap (λ t. cond (t && leb d 122) (first_word (d ∷ line)) []) (lt-leb 97 d (omega (arith, range.1)))

-- ---- a clue that is written is read again

empty_clue : (cells : ℕ) → clue_in cells (48 ∷ []) ≡ Ok []
unfolding clue_in is_blank_line past_blanks before_blanks is_blank number_spelled value_after clue_from
empty_clue cells = refl

some_clue : (cells : ℕ) (b : Block) (blocks : List Block) → IsWritable cells (b ∷ blocks) → sum (lens_of (b ∷ blocks)) < 2 ^ 64 → clue_in cells (clue_text (b ∷ blocks)) ≡ Ok (b ∷ blocks)
unfolding clue_in
some_clue cells b blocks is small =
    let text = clue_text (b ∷ blocks) in
    ap (λ t. cond t (Ok []) (numbers_in (slice_split (λ c. eqb c 44) text) >>= clue_from cells)) (full_line text (clue_text_begins (b ∷ blocks) small))
    ∙ ap (λ (pieces : List (List ℕ)). numbers_in pieces >>= clue_from cells) (places_are b blocks small)
    ∙ ap (λ read. read >>= clue_from cells) (numbers_are (b ∷ blocks) small)
    ∙ clue_from-lens cells b blocks is

pub small_sum : (cells : ℕ) (clue : List Block) → IsWritable cells clue → cells ≤ MAX_SIDE → sum (lens_of clue) < 2 ^ 64
small_sum cells clue is small = let fits = is.fits in omega (arith, fits)

pub clue_in-clue_text : (cells : ℕ) (clue : List Block) → IsWritable cells clue → cells ≤ MAX_SIDE → clue_in cells (clue_text clue) ≡ Ok clue
clue_in-clue_text cells [] is small = empty_clue cells
clue_in-clue_text cells (b ∷ blocks) is small = some_clue cells b blocks is (small_sum cells (b ∷ blocks) is small)

-- ---- the clue of a line in two colours can be written

-- no cell has a colour above 1
abbrev pub IsTwoColour : List ℕ → Type 0
IsTwoColour [] = Unit {0}
IsTwoColour (x ∷ cells) = (x ≤ 1) × IsTwoColour cells

longer_black : (blocks : List Block) → AreBlack blocks → AreBlack (longer blocks)
longer_black [] black = tt
longer_black (b ∷ blocks) black = let some = black.0 in (omega (arith, some), black.1, black.2)

clue_black : (cells : List ℕ) → IsTwoColour cells → AreBlack (clue_of cells)
clue_black [] two = tt
clue_black (zero ∷ cells) two = clue_black cells two.1
clue_black (suc x ∷ []) two = let low = two.0 in (omega arith, omega (arith, low), tt)
clue_black (suc x ∷ y ∷ cells) two = by_test (eqb (suc x) y) (clue_black (y ∷ cells) two.1)
  where
    by_test : (t : Bool) → AreBlack (clue_of (y ∷ cells)) → AreBlack (cond t (longer (clue_of (y ∷ cells))) (block 1 (suc x) ∷ clue_of (y ∷ cells)))
    by_test true black = longer_black (clue_of (y ∷ cells)) black
    by_test false black = let low = two.0 in (omega arith, omega (arith, low), black)

-- the cells that blocks take, each with one after it
abbrev room_of : List Block → ℕ
room_of blocks = sum (lens_of blocks) + length blocks

room-cons : (b : Block) (blocks : List Block) → room_of (b ∷ blocks) ≡ b.len + 1 + room_of blocks
room-cons b blocks = omega (arith, sum-cons b.len (lens_of blocks))

room-longer : (blocks : List Block) → room_of (longer blocks) ≤ room_of blocks + 1
room-longer [] = omega arith
room-longer (b ∷ blocks) = omega (arith, room-cons b blocks, room-cons (block (b.len + 1) b.colour) blocks)

clue_room : (cells : List ℕ) → IsTwoColour cells → room_of (clue_of cells) ≤ length cells + 1
clue_room [] two = omega arith
clue_room (zero ∷ cells) two = let rest = clue_room cells two.1 in omega (arith, rest)
clue_room (suc x ∷ []) two = omega (arith, room-cons (block 1 (suc x)) [])
clue_room (suc x ∷ zero ∷ cells) two =
    let rest = clue_room cells two.1.1 in
    let more = room-cons (block 1 (suc x)) (clue_of cells) in
    let P : Bool → Type 0 = λ t. room_of (cond t (longer (clue_of cells)) (block 1 (suc x) ∷ clue_of cells)) ≤ suc (suc (length cells)) + 1 in
    subst P (sym (ne_eqb (suc x) 0 (omega arith))) (omega (arith, rest, more))
clue_room (suc x ∷ suc y ∷ cells) two =
    let rest = clue_room (suc y ∷ cells) two.1 in
    let low = two.0 in
    let next = two.1.0 in
    let more = room-longer (clue_of (suc y ∷ cells)) in
    let P : Bool → Type 0 = λ t. room_of (cond t (longer (clue_of (suc y ∷ cells))) (block 1 (suc x) ∷ clue_of (suc y ∷ cells))) ≤ suc (suc (length cells)) + 1 in
    subst P (sym (eq-eqb (suc x) (suc y) (omega (arith, low, next)))) (omega (arith, rest, more))

-- the clue of a line can be written for as many cells
pub writable : (cells : List ℕ) → IsTwoColour cells → IsWritable (length cells) (clue_of cells)
writable cells two = let room = clue_room cells two in record { black = clue_black cells two; fits = by_blocks (clue_of cells) room }
  where
    by_blocks : (blocks : List Block) → room_of blocks ≤ length cells + 1 → cells_needed (lens_of blocks) ≤ length cells
    by_blocks [] h = omega arith
    by_blocks (b ∷ blocks) h = omega (arith, h, length-map (b ∷ blocks) (λ (o : Block). o.len))

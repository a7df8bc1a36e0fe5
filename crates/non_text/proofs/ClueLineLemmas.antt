-- The numbers of a clue line, and the clue that they give.
use Rattle.std.proofs.Common.{◌≡◌, ◌≢◌, ℕ, ◌+◌, ◌-◌, ◌<◌, ◌≤◌, Bool, true, false, cond, eqb, ltb, leb, List, [], ◌∷◌, ◌++◌, length, get_or, drop, map, sum, Option, Some, None, Result, Ok, Err, refl}
use Rattle.std.proofs.Common.{sym, ap, ◌∙◌, arith, min, inl, inr, option_map, ◌||◌}
use Rattle.std.specs.Borrow.{Bor}
use Rattle.std.specs.List.{slice_split}
use Rattle.std.specs.Option.{ok_or}
use Rattle.std.proofs.lemmas.List.{at_drop_more, at_drop_all, append_assoc, append-nil, length-map}
use Rattle.std.proofs.lemmas.List.Sums.{sum_by-cons}
use Rattle.std.proofs.lemmas.List.Elements.{All-nil, All-cons}
use Rattle.std.proofs.lemmas.Bool.{lt-ltb, le-ltb, le-leb, lt-leb, eqb-false, ne_eqb, cases_lt, cases_eq, or_parts}
use Rattle.picture.specs.Readers.{◌>>=◌}
use Rattle.clues.specs.declared.block.Block.{Block}
use Rattle.clues.specs.Clue.{IsBlock, IsClue}
use Rattle.non_text.specs.declared.fault.NonFault.{NonFault}
use Rattle.non_text.specs.declared.fault.NonFault.TheVariants.{BadClue, ClueTooLong}
use Rattle.non_text.specs.Bytes.{trimmed}
use Rattle.picture.specs.Numbers.{number_spelled}
use Rattle.non_text.specs.Lines.{is_blank_line}
use Rattle.picture.specs.Readers.{pieces_behind}
use Rattle.non_text.specs.Capped.{all_capped}
use Rattle.non_text.specs.ClueLine.{numbers_in, cells_needed, black, is_lone_zero, has_zero, clue_from, clue_in}

-- ---- the numbers between commas

-- what is read after the numbers that were read already
abbrev pub behind_front : List ℕ → Result (List ℕ) NonFault → Result (List ℕ) NonFault
behind_front front read = read >>= λ numbers. Ok (front ++ numbers)

-- how much text is left
abbrev pub length_left : Option (Bor (List ℕ)) → ℕ
length_left None = 0
length_left (Some rest) = length rest.now + 1

unfoldable pub left_to_read : List ℕ → Option (Bor (List ℕ)) → Result (List ℕ) NonFault
left_to_read front rest = behind_front front (all_capped (numbers_in (pieces_behind 44 rest)))

pub left_first : (line : Bor (List ℕ)) → left_to_read [] (Some line) ≡ all_capped (numbers_in (slice_split (λ b. eqb b 44) line.now))
unfolding left_to_read
left_first line = same (all_capped (numbers_in (slice_split (λ b. eqb b 44) line.now)))
  where
    same : (read : Result (List ℕ) NonFault) → behind_front [] read ≡ read
    same (Ok numbers) = refl
    same (Err e) = refl

pub left_none : (front : List ℕ) → left_to_read front None ≡ Ok front
unfolding left_to_read
left_none front = ap Ok (append-nil front)

-- one place is read
pub left_more : (front : List ℕ) (places : Bor (List ℕ)) (place : List ℕ) (behind : Option (Bor (List ℕ))) (number : ℕ) → slice_split (λ b. eqb b 44) places.now ≡ place ∷ pieces_behind 44 behind
    → option_map (min 255) (number_spelled (trimmed place)) ≡ Some number
    → left_to_read (front ++ number ∷ []) behind ≡ left_to_read front (Some places)
unfolding left_to_read
left_more front places place behind number split is =
    sym (ap (λ pieces. behind_front front (all_capped (numbers_in pieces))) split ∙ by_number (number_spelled (trimmed place)) (numbers_in (pieces_behind 44 behind)) is)
  where
    by_number : (o : Option ℕ) (later : Result (List ℕ) NonFault) → option_map (min 255) o ≡ Some number
        → behind_front front (all_capped (ok_or o BadClue >>= λ n. later >>= λ ns. Ok (n ∷ ns))) ≡ behind_front (front ++ number ∷ []) (all_capped later)
    by_number None later e = cc
    by_number (Some n) (Err f) e = refl
    by_number (Some n) (Ok ns) e = let first : min 255 n ≡ number = cc in ap Ok (ap (λ k. front ++ k ∷ map (min 255) ns) first ∙ sym (append_assoc front (number ∷ []) (map (min 255) ns)))

-- a place without a number
pub left_bad : (front : List ℕ) (places : Bor (List ℕ)) (place : List ℕ) (behind : Option (Bor (List ℕ))) → slice_split (λ b. eqb b 44) places.now ≡ place ∷ pieces_behind 44 behind
    → option_map (min 255) (number_spelled (trimmed place)) ≡ None
    → left_to_read front (Some places) ≡ Err BadClue
unfolding left_to_read
left_bad front places place behind split is =
    ap (λ pieces. behind_front front (all_capped (numbers_in pieces))) split ∙ by_number (number_spelled (trimmed place)) (numbers_in (pieces_behind 44 behind)) is
  where
    by_number : (o : Option ℕ) (later : Result (List ℕ) NonFault) → option_map (min 255) o ≡ None → behind_front front (all_capped (ok_or o BadClue >>= λ n. later >>= λ ns. Ok (n ∷ ns))) ≡ Err BadClue
    by_number None later e = refl
    by_number (Some n) later e = cc

pub ruleset places = (left_first, left_none, left_more, left_bad)

-- ---- room

leb-same : (a b c d : ℕ) → (a ≤ b → c ≤ d) → (c ≤ d → a ≤ b) → leb a b ≡ leb c d
leb-same a b c d there back = elim (cases_lt b a) [
  | inl lt ↦ lt-leb a b lt ∙ sym (lt-leb c d (not_above there back lt))
  | inr le ↦ le-leb a b le ∙ sym (le-leb c d (there le))
]
  where
    not_above : (a ≤ b → c ≤ d) → (c ≤ d → a ≤ b) → b < a → d < c
    not_above there back lt = elim (cases_lt d c) [ inl h ↦ h | inr h ↦ absurd (omega (arith, back h, lt)) ]

-- whether the lengths fit, with a cell after each
unfoldable pub fits_in : ℕ → List ℕ → Bool
fits_in room [] = true
fits_in room (n ∷ lens) = cond (ltb room (n + 1)) false (fits_in (room - (n + 1)) lens)

pub fits_in_less : (room : ℕ) (lens : List ℕ) (i : ℕ) → i < length lens → room < get_or lens i 0 + 1 → fits_in room (drop i lens) ≡ false
unfolding fits_in
fits_in_less room lens i lt less = at_drop_more (fits_in room) lens i 0 lt ∙ ap (λ t. cond t false (fits_in (room - (get_or lens i 0 + 1)) (drop (i + 1) lens))) (lt-ltb _ _ less)

pub fits_in_more : (room : ℕ) (lens : List ℕ) (i : ℕ) → i < length lens → get_or lens i 0 + 1 ≤ room → fits_in (room - (get_or lens i 0 + 1)) (drop (i + 1) lens) ≡ fits_in room (drop i lens)
unfolding fits_in
fits_in_more room lens i lt some = sym (at_drop_more (fits_in room) lens i 0 lt ∙ ap (λ t. cond t false (fits_in (room - (get_or lens i 0 + 1)) (drop (i + 1) lens))) (le-ltb _ _ some))

pub fits_in_all : (room : ℕ) (lens : List ℕ) (i : ℕ) → length lens ≤ i → fits_in room (drop i lens) ≡ true
unfolding fits_in
fits_in_all room lens i le = at_drop_all (fits_in room) lens i le

pub sum-cons : (n : ℕ) (ns : List ℕ) → sum (n ∷ ns) ≡ n + sum ns
sum-cons n ns = sum_by-cons (λ k. k) n ns

fits_in_sum : (room : ℕ) (lens : List ℕ) → fits_in room lens ≡ leb (sum lens + length lens) room
unfolding fits_in
fits_in_sum room [] = sym (le-leb _ _ (omega arith))
fits_in_sum room (n ∷ lens) = elim (cases_lt room (n + 1)) [
  | inl lt ↦ ap (λ t. cond t false (fits_in (room - (n + 1)) lens)) (lt-ltb _ _ lt) ∙ sym (lt-leb _ _ (omega (arith, lt, sum-cons n lens)))
  | inr le ↦ ap (λ t. cond t false (fits_in (room - (n + 1)) lens)) (le-ltb _ _ le) ∙ fits_in_sum (room - (n + 1)) lens
      ∙ leb-same _ _ _ _ (λ h. omega (arith, h, le, sum-cons n lens)) (λ h. omega (arith, h, le, sum-cons n lens))
]

pub fits_in_is : (cells : ℕ) (lens : List ℕ) → fits_in (cells + 1) lens ≡ leb (cells_needed lens) cells
unfolding fits_in
fits_in_is cells [] = sym (le-leb _ _ (omega arith))
fits_in_is cells (n ∷ lens) = fits_in_sum (cells + 1) (n ∷ lens) ∙ leb-same _ _ _ _ (λ h. omega arith) (λ h. omega arith)

pub ruleset room = (fits_in_less, fits_in_more, fits_in_all, fits_in_is)

-- ---- the clue that numbers give

pub black_clue : (numbers : List ℕ) → has_zero numbers ≡ false → IsClue (map black numbers)
black_clue [] e = All-nil IsBlock
black_clue (n ∷ numbers) e =
    let parts = or_parts (eqb n 0) (has_zero numbers) e in
    let some : n ≢ 0 = eqb-false n 0 parts.0 in
    All-cons IsBlock (black n) (map black numbers) (record { has_cells = omega arith; has_colour = omega arith; in_palette = omega arith }) (black_clue numbers parts.1)

-- ---- capping changes no clue

small_same : (numbers : List ℕ) → sum (map (min 255) numbers) < 255 → map (min 255) numbers ≡ numbers
small_same [] small = refl
small_same (n ∷ numbers) small =
    let parts = sum-cons (min 255 n) (map (min 255) numbers) in
    let first : min 255 n ≡ n = omega (arith, parts, small) in
    ap (λ k. k ∷ map (min 255) numbers) first ∙ ap (λ (ns : List ℕ). n ∷ ns) (small_same numbers (omega (arith, parts, small)))

sum-capped : (numbers : List ℕ) → sum (map (min 255) numbers) ≤ sum numbers
sum-capped [] = omega arith
sum-capped (n ∷ numbers) = omega (arith, sum-capped numbers, sum-cons n numbers, sum-cons (min 255 n) (map (min 255) numbers))

zero_capped : (n : ℕ) → eqb (min 255 n) 0 ≡ eqb n 0
zero_capped n = elim (cases_eq n 0) [
  | inl e ↦ ap (λ k. eqb (min 255 k) 0) e ∙ sym (ap (λ k. eqb k 0) e)
  | inr other ↦ ne_eqb _ _ (omega arith) ∙ sym (ne_eqb n 0 other)
]

lone_zero_capped : (numbers : List ℕ) → is_lone_zero (map (min 255) numbers) ≡ is_lone_zero numbers
lone_zero_capped [] = refl
lone_zero_capped (n ∷ []) = zero_capped n
lone_zero_capped (n ∷ m ∷ numbers) = refl

has_zero-capped : (numbers : List ℕ) → has_zero (map (min 255) numbers) ≡ has_zero numbers
has_zero-capped [] = refl
has_zero-capped (n ∷ numbers) = ap (λ t. t || has_zero (map (min 255) numbers)) (zero_capped n) ∙ ap (λ t. eqb n 0 || t) (has_zero-capped numbers)

abbrev pub chosen : Bool → Bool → Bool → List Block → Result (List Block) NonFault
chosen lone other fits blocks = cond lone (Ok []) (cond other (Err BadClue) (cond fits (Ok blocks) (Err ClueTooLong)))

clue_from_capped : (cells : ℕ) (numbers : List ℕ) → cells < 255 → clue_from cells (map (min 255) numbers) ≡ clue_from cells numbers
unfolding clue_from
clue_from_capped cells numbers small =
    let capped = map (min 255) numbers in
    let same_length = length-map numbers (min 255) in
    let less = sum-capped numbers in
    elim (cases_lt cells (cells_needed capped)) [
      | inl lt ↦
          ap (λ t. chosen t (has_zero capped) (leb (cells_needed capped) cells) (map black capped)) (lone_zero_capped numbers)
          ∙ ap (λ t. chosen (is_lone_zero numbers) t (leb (cells_needed capped) cells) (map black capped)) (has_zero-capped numbers)
          ∙ ap (λ t. chosen (is_lone_zero numbers) (has_zero numbers) t (map black capped)) (lt-leb _ _ lt)
          ∙ ap (λ t. chosen (is_lone_zero numbers) (has_zero numbers) t (map black numbers)) (sym (lt-leb (cells_needed numbers) cells (omega arith)))
      | inr le ↦ ap (clue_from cells) (small_same numbers (omega arith))
    ]

pub clue_in_blank : (cells : ℕ) (line : List ℕ) → is_blank_line line ≡ true → clue_in cells line ≡ Ok []
unfolding clue_in
clue_in_blank cells line e = ap (λ t. cond t (Ok []) (numbers_in (slice_split (λ b. eqb b 44) line) >>= clue_from cells)) e

pub clue_in_full : (cells : ℕ) (line : List ℕ) → cells < 255 → is_blank_line line ≡ false → clue_in cells line ≡ (all_capped (numbers_in (slice_split (λ b. eqb b 44) line)) >>= clue_from cells)
unfolding clue_in
clue_in_full cells line small e =
    ap (λ t. cond t (Ok []) (numbers_in (slice_split (λ b. eqb b 44) line) >>= clue_from cells)) e
    ∙ capping (numbers_in (slice_split (λ b. eqb b 44) line))
  where
    capping : (read : Result (List ℕ) NonFault) → (read >>= clue_from cells) ≡ (all_capped read >>= clue_from cells)
    capping (Ok numbers) = sym (clue_from_capped cells numbers small)
    capping (Err f) = refl

pub ruleset clue_lines = (clue_in_blank, clue_in_full)

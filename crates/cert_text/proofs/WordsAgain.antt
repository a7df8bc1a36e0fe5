-- Numbers, places and words that are written and read again.
use Rattle.std.proofs.Common.{◌≡◌, ℕ, ◌^◌, ◌<◌, true, false, cond, not, eqb, List, [], ◌∷◌, ◌++◌, length, get_or, None, Some, refl, ap, ◌∙◌}
use Rattle.std.proofs.Common.{arith, inl, inr, codes, decimal, option_map}
use Rattle.std.specs.Option.{option_and_then}
use Rattle.std.proofs.lemmas.Bool.{and_from, cases_lt, le-leb, ne_eqb}
use Rattle.std.proofs.lemmas.Fmt.{decimal_digit, first_decimal, length-decimal-le}
use Rattle.std.proofs.lemmas.List.Folds.{list_all-append}
use Rattle.picture.specs.Numbers.{number_spelled, short_number}
use Rattle.picture.proofs.NumberLaws.{decimal_lacks, number_spelled-decimal}
use Rattle.picture.proofs.SplitLaws.{lacks, one_piece, split_at}
use Rattle.picture.specs.declared.line_id.Axis.{Axis}
use Rattle.picture.specs.declared.line_id.Axis.TheVariants.{Across, Down}
use Rattle.cert_text.specs.Text.{cell_named, cell_number, has_leading_zero, if_small, joined_named, lemma_named, line_named, line_number, lines_of, number_of, words_of}
use Rattle.cert_text.proofs.WordLemmas.{lines_more}

-- ---- numbers

pub no_leading_zero : (n : ℕ) → n < 2 ^ 64 → has_leading_zero (decimal n) ≡ false
no_leading_zero n l = elim (cases_lt n 10) [
  | inl small ↦ ap has_leading_zero (decimal_digit n small)
  | inr large ↦ by_first (decimal n) (first_decimal n (omega arith) l)
]
  where
    by_first : (ds : List ℕ) → 48 < get_or ds 0 0 → has_leading_zero ds ≡ false
    by_first [] h = refl
    by_first (d ∷ []) h = refl
    by_first (d ∷ e ∷ ds) h = ne_eqb d 48 (omega arith)

number_again : (n : ℕ) → n < 1000 → number_of (decimal n) ≡ Some n
number_again n l =
    ap (λ t. cond t None (short_number 3 (decimal n))) (no_leading_zero n (omega arith))
    ∙ ap (λ t. cond t (number_spelled (decimal n)) None) (le-leb (length (decimal n)) 3 (length-decimal-le 3 n (omega arith) (omega arith) (omega arith)))
    ∙ number_spelled-decimal n (omega arith)

-- the number of a lemma
pub lemma_again : (n : ℕ) → n < 2 ^ 16 → lemma_named (decimal n) ≡ Some n
lemma_again n l =
    ap (λ t. cond t None (if_small (short_number 5 (decimal n)))) (no_leading_zero n (omega arith))
    ∙ (ap (λ t. if_small (cond t (number_spelled (decimal n)) None)) (le-leb (length (decimal n)) 5 (length-decimal-le 5 n (omega arith) (omega arith) (omega arith)))
    ∙ (ap if_small (number_spelled-decimal n (omega arith))
    ∙ ap (λ t. cond t (Some n) None) (le-leb n 65535 (omega arith))))

-- ---- words

pub record IsWord (bytes : List ℕ) : Type 0 where
  pub no_space : lacks 32 bytes ≡ true
  pub no_feed : lacks 10 bytes ≡ true

pub decimal_is : (n : ℕ) → n < 2 ^ 64 → IsWord (decimal n)
decimal_is n l = record { no_space = decimal_lacks 32 n (omega arith) l; no_feed = decimal_lacks 10 n (omega arith) l }

pub number_is : (n : ℕ) → n < 1000 → IsWord (decimal n)
number_is n l = decimal_is n (omega arith)

abbrev pub axis_word : Axis → List ℕ
axis_word Across = codes "r"
axis_word Down = codes "c"

pub axis_is : (axis : Axis) → IsWord (axis_word axis)
axis_is Across = record { no_space = refl; no_feed = refl }
axis_is Down = record { no_space = refl; no_feed = refl }

pub axis_named : (axis : Axis) (n : ℕ) → n < 1000 → line_named (axis_word axis) (decimal n) ≡ Some (line_number axis n)
axis_named Across n l = ap (option_map (line_number Across)) (number_again n l)
axis_named Down n l = ap (option_map (line_number Down)) (number_again n l)

pub cell_named_again : (row col : ℕ) → row < 1000 → col < 1000 → cell_named (decimal row) (decimal col) ≡ Some (cell_number row col)
cell_named_again row col l m =
    ap (option_and_then (λ (row : ℕ). option_map (cell_number row) (number_of (decimal col)))) (number_again row l)
    ∙ ap (option_map (cell_number row)) (number_again col m)

pub lacks_append : (c : ℕ) (xs ys : List ℕ) → lacks c xs ≡ true → lacks c ys ≡ true → lacks c (xs ++ ys) ≡ true
lacks_append c xs ys h k = list_all-append (λ b. not (eqb b c)) xs ys ∙ and_from (lacks c xs) (lacks c ys) h k

pub first_line_is : (xs ys : List ℕ) → lacks 10 xs ≡ true → lines_of (xs ++ 10 ∷ ys) ≡ xs ∷ lines_of ys
first_line_is xs ys h = lines_more (xs ++ 10 ∷ ys) xs ys (split_at 10 xs ys h)

-- ---- words with single spaces between

abbrev pub AreWords : List (List ℕ) → Type 0
AreWords [] = Unit {0}
AreWords (word ∷ words) = IsWord word × AreWords words

abbrev pub spaced : List ℕ → List (List ℕ) → List ℕ
spaced word [] = word
spaced word (next ∷ words) = word ++ 32 ∷ spaced next words

pub words_again : (word : List ℕ) (words : List (List ℕ)) → AreWords (word ∷ words) → words_of (spaced word words) ≡ word ∷ words
words_again word [] are = one_piece 32 word are.0.no_space
words_again word (next ∷ words) are = split_at 32 word (spaced next words) are.0.no_space ∙ ap (λ (ws : List (List ℕ)). word ∷ ws) (words_again next words are.1)

pub spaced_lacks : (word : List ℕ) (words : List (List ℕ)) → AreWords (word ∷ words) → lacks 10 (spaced word words) ≡ true
spaced_lacks word [] are = are.0.no_feed
spaced_lacks word (next ∷ words) are = lacks_append 10 word (32 ∷ spaced next words) are.0.no_feed (spaced_lacks next words are.1)

-- ---- a row or a column in one word

pub joined_again : (axis : Axis) (n : ℕ) → n < 1000 → joined_named (axis_word axis ++ decimal n) ≡ Some (line_number axis n)
joined_again Across n l = axis_named Across n l
joined_again Down n l = axis_named Down n l

pub joined_is : (axis : Axis) (n : ℕ) → n < 1000 → IsWord (axis_word axis ++ decimal n)
joined_is axis n l = record {
  no_space = lacks_append 32 (axis_word axis) (decimal n) (axis_is axis).no_space (number_is n l).no_space;
  no_feed = lacks_append 10 (axis_word axis) (decimal n) (axis_is axis).no_feed (number_is n l).no_feed;
}

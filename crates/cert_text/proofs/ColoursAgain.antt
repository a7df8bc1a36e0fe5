-- Colours that are written by their letters and read again.
use Rattle.std.proofs.Common.{◌≡◌, ℕ, ◌+◌, ◌*◌, ◌/◌, ◌%◌, ◌-◌, ◌^◌, ◌<◌, ◌≤◌, ◌==◌, ◌&&◌, ◌⊎◌, Bool, true, false, cond, not, eqb, bit_and, List, [], ◌∷◌, ◌++◌, Option, None}
use Rattle.std.proofs.Common.{Some, refl, sym, ap, ◌∙◌, arith, inl, inr, nat_le, eq-eqb, subst, zero, suc}
use Rattle.std.specs.List.{flat_map, range_with_len}
use Rattle.std.proofs.lemmas.Bool.{and_from, cases_lt, le-leb, ne_eqb, not_from_false}
use Rattle.std.proofs.lemmas.Nat.{pow_pos, shr-shr, shr_split}
use Rattle.std.proofs.lemmas.Nat.Bits.{and_pow, bit_at-lt}
use Rattle.std.proofs.lemmas.Grind.{pow_more}
use Rattle.std.proofs.Math.Nat.{add-mul, div-eq_of_lt, mul_assoc, one-mul, zero-mul}
use Rattle.std.specs.Int.{bit_at}
use Rattle.picture.proofs.SplitLaws.{lacks}
use Rattle.cert_text.specs.Letters.{colour_at, colours_behind, colours_named, letter, letter_where, letters_text, with_colour}
use Rattle.cert_text.proofs.WordsAgain.{IsWord, lacks_append}

-- a number without the bits below a place
from_bit : ℕ → ℕ → ℕ
from_bit n k = n / 2 ^ k * 2 ^ k

halves : (q p : ℕ) → q * p ≡ q % 2 * p + q / 2 * (p * 2)
halves q p =
    let parts : q ≡ q % 2 + q / 2 * 2 = omega arith in
    let two : 2 * p ≡ p * 2 = omega arith in
    ap (λ (x : ℕ). x * p) parts ∙ (add-mul (q % 2) (q / 2 * 2) p ∙ ap (λ (x : ℕ). q % 2 * p + x) (mul_assoc (q / 2) 2 p ∙ ap (λ (x : ℕ). q / 2 * x) two))

from_next : (n k : ℕ) → from_bit n k ≡ bit_and n (2 ^ k) + from_bit n (k + 1)
unfolding from_bit
from_next n k =
    let here : bit_and n (2 ^ k) ≡ n / 2 ^ k % 2 * 2 ^ k = and_pow n k in
    let above : n / 2 ^ k / 2 ≡ n / 2 ^ (k + 1) = shr-shr n k 1 in
    halves (n / 2 ^ k) (2 ^ k)
    ∙ (ap (λ (x : ℕ). n / 2 ^ k % 2 * 2 ^ k + x * (2 ^ k * 2)) above
    ∙ (ap (λ (x : ℕ). n / 2 ^ k % 2 * 2 ^ k + n / 2 ^ (k + 1) * x) (sym (pow_more 2 k))
    ∙ ap (λ (x : ℕ). x + n / 2 ^ (k + 1) * 2 ^ (k + 1)) (sym here)))

from_first : (n : ℕ) → from_bit n 0 ≡ n
unfolding from_bit
from_first n = omega (arith, shr_split n 0)

none_from : (n k : ℕ) → n < 2 ^ k → from_bit n k ≡ 0
unfolding from_bit
none_from n k l = ap (λ (x : ℕ). x * 2 ^ k) (div-eq_of_lt l) ∙ zero-mul (2 ^ k)

-- a mask has a colour or not
has_bit : (n k : ℕ) → (((bit_and n (2 ^ k) == 0) ≡ true) × (bit_and n (2 ^ k) ≡ 0)) ⊎ (((bit_and n (2 ^ k) == 0) ≡ false) × (bit_and n (2 ^ k) ≡ 2 ^ k))
has_bit n k = elim (cases_lt (bit_at n k) 1) [
  | inl none ↦
      let zero_bit : bit_at n k ≡ 0 = omega arith in
      let no : bit_and n (2 ^ k) ≡ 0 = and_pow n k ∙ (ap (λ (x : ℕ). x * 2 ^ k) zero_bit ∙ zero-mul (2 ^ k)) in
      inl (eq-eqb (bit_and n (2 ^ k)) 0 no, no)
  | inr some ↦
      let one_bit : bit_at n k ≡ 1 = omega (arith, bit_at-lt n k) in
      let yes : bit_and n (2 ^ k) ≡ 2 ^ k = and_pow n k ∙ (ap (λ (x : ℕ). x * 2 ^ k) one_bit ∙ one-mul (2 ^ k)) in
      inr (ne_eqb (bit_and n (2 ^ k)) 0 (λ e. absurd (omega (arith, pow_pos k, yes, e))), yes)
]

letter_again : (k : ℕ) → k < 16 → colour_at (letter k) ≡ Some k
letter_again k l = elim (cases_lt k 1) [
  | inl none ↦ (let e : 0 ≡ k = omega arith in subst (λ (j : ℕ). colour_at (letter j) ≡ Some j) e refl)
  | inr some ↦
      ap (λ (t : Bool). colour_at (cond t 46 (96 + k))) (ne_eqb k 0 (λ e. absurd (omega (arith, e, some))))
      ∙ (ap (λ (t : Bool). cond t (Some 0) (cond (nat_le 97 (96 + k) && nat_le (96 + k) 111) (Some (96 + k - 96)) None)) (ne_eqb (96 + k) 46 (λ e. absurd (omega (arith, e))))
      ∙ (ap (λ (t : Bool). cond t (Some (96 + k - 96)) None) (and_from (nat_le 97 (96 + k)) (nat_le (96 + k) 111) (le-leb 97 (96 + k) (omega arith)) (le-leb (96 + k) 111 (omega arith)))
      ∙ ap Some (let e : 96 + k - 96 ≡ k = omega arith in e)))
]

letters_from : (n k len colours least : ℕ) → k + len ≡ 16 → n < 2 ^ 16 → least ≤ k → colours_behind colours least (flat_map (letter_where n) (range_with_len k len)) ≡ Some (colours + from_bit n k)
unfolding colours_behind
letters_from n k zero colours least e l m =
    let end : 16 ≡ k = omega arith in
    let none : from_bit n k ≡ 0 = none_from n k (subst (λ (j : ℕ). n < 2 ^ j) end l) in
    ap Some (omega (arith, none))
letters_from n k (suc len) colours least e l m =
    let rest = flat_map (letter_where n) (range_with_len (k + 1) len) in
    let next = from_next n k in
    elim (has_bit n k) [
      | inl lack ↦
          ap (λ (t : Bool). colours_behind colours least (cond t [] (letter k ∷ []) ++ rest)) lack.0
          ∙ (letters_from n (k + 1) len colours least (omega (arith, e)) l (omega (arith, m)) ∙ ap Some (omega (arith, next, lack.1)))
      | inr has ↦
          ap (λ (t : Bool). colours_behind colours least (cond t [] (letter k ∷ []) ++ rest)) has.0
          ∙ (ap (λ (o : Option ℕ). with_colour colours least o (λ more from. colours_behind more from rest)) (letter_again k (omega (arith, e)))
          ∙ (ap (λ (t : Bool). cond t (colours_behind (colours + 2 ^ k) (k + 1) rest) None) (le-leb least k m)
          ∙ (letters_from n (k + 1) len (colours + 2 ^ k) (k + 1) (omega (arith, e)) l (omega arith) ∙ ap Some (omega (arith, next, has.1)))))
    ]

named_again : (word : List ℕ) (n : ℕ) → 0 < n → colours_behind 0 0 word ≡ Some n → colours_named word ≡ Some n
unfolding colours_behind
named_again [] n l e = absurd (let z : 0 ≡ n = cc in omega (arith, z, l))
named_again (b ∷ word) n l e = e

pub colours_again : (n : ℕ) → 0 < n → n < 2 ^ 16 → colours_named (letters_text n) ≡ Some n
colours_again n some l = named_again (letters_text n) n some (letters_from n 0 16 0 0 refl l (omega arith) ∙ ap Some (omega (arith, from_first n)))

-- ---- words

letter_high : (k : ℕ) → 46 ≤ letter k
letter_high k = by (k == 0)
  where
    by : (t : Bool) → 46 ≤ cond t 46 (96 + k)
    by true = omega arith
    by false = omega arith

letter_lacks : (c n k : ℕ) → c < 46 → lacks c (letter_where n k) ≡ true
letter_lacks c n k l = by (bit_and n (2 ^ k) == 0)
  where
    by : (t : Bool) → lacks c (cond t [] (letter k ∷ [])) ≡ true
    by true = refl
    by false = and_from (not (eqb (letter k) c)) true (not_from_false (eqb (letter k) c) (ne_eqb (letter k) c (λ e. absurd (omega (arith, e, l, letter_high k))))) refl

letters_lack : (c n : ℕ) (colours : List ℕ) → c < 46 → lacks c (flat_map (letter_where n) colours) ≡ true
letters_lack c n [] l = refl
letters_lack c n (k ∷ colours) l = lacks_append c (letter_where n k) (flat_map (letter_where n) colours) (letter_lacks c n k l) (letters_lack c n colours l)

pub letters_are : (n : ℕ) → IsWord (letters_text n)
letters_are n = record { no_space = letters_lack 32 n (range_with_len 0 16) (omega arith); no_feed = letters_lack 10 n (range_with_len 0 16) (omega arith) }

-- Texts of grids, row by row and cell by cell, and the colours of a mask.
use Rattle.std.proofs.Common.{◌≡◌, ℕ, zero, suc, ◌+◌, ◌^◌, ◌<◌, Bool, true, false, cond, not, List, [], ◌∷◌, ◌++◌, map, append_assoc, append-nil, refl, sym, ap, ◌∙◌, arith, count_ones, filter, ◌==◌}
use Rattle.std.specs.Int.{bit_at, trailing_zeros, w16}
use Rattle.std.specs.List.{range_with_len}
use Rattle.std.proofs.lemmas.List.{map-append}
use Rattle.std.proofs.lemmas.List.Elements.{filter-append}
use Rattle.std.proofs.lemmas.Nat.{ones_le_self}
use Rattle.std.proofs.lemmas.Nat.Bits.{bit_at-trailing_zeros}
use Rattle.report_text.specs.ReasonText.{letters_left}
use Rattle.report_text.specs.Shown.{letter}

-- nothing was pushed yet
pub none_pushed : (old nothing : List ℕ) → nothing ≡ [] → old ≡ old ++ nothing
none_pushed old nothing none = sym (ap (λ (text : List ℕ). old ++ text) none ∙ append-nil old)

-- one piece more
pub pushed : (old now new front piece all : List ℕ) → now ≡ old ++ front → new ≡ now ++ piece → all ≡ front ++ piece → new ≡ old ++ all
pushed old now new front piece all so more one = more ∙ ap (λ (text : List ℕ). text ++ piece) so ∙ append_assoc old front piece ∙ ap (λ (text : List ℕ). old ++ text) (sym one)

-- the only bit of a mask is one of the sixteen
pub lowest_of_one : (mask : ℕ) → mask < 2 ^ 16 → count_ones mask ≡ 1 → trailing_zeros w16 mask < 16
lowest_of_one zero fits one = absurd (omega (arith, ones_le_self 0, one))
lowest_of_one (suc mask) fits one = (bit_at-trailing_zeros w16 (suc mask) (omega arith) fits).0

-- ---- the colours that a premise leaves

-- the letters of those of some colours that are not excluded
unfoldable pub letters_among : ℕ → List ℕ → List ℕ
letters_among excluded colours = map letter (filter (λ k. not (bit_at excluded k == 1)) colours)

pub letters_all : (excluded : ℕ) → letters_left excluded ≡ letters_among excluded (range_with_len 0 16)
unfolding letters_among letters_left
letters_all excluded = refl

pub ruleset all_letters = (letters_all)

range_more : (a n : ℕ) → range_with_len a (suc n) ≡ range_with_len a n ++ (a + n) ∷ []
range_more a zero = ap (λ (k : ℕ). k ∷ []) (omega arith)
range_more a (suc n) = ap (λ (ks : List ℕ). a ∷ ks) (range_more (a + 1) n ∙ ap (λ (k : ℕ). range_with_len (a + 1) n ++ k ∷ []) (omega arith))

one_letter : (k : ℕ) (s t : Bool) → s ≡ t → map letter (cond s (k ∷ []) []) ≡ cond t (letter k ∷ []) []
one_letter k s true is = ap (λ t. map letter (cond t (k ∷ []) [])) is
one_letter k s false is = ap (λ t. map letter (cond t (k ∷ []) [])) is

among_append : (excluded : ℕ) (front : List ℕ) (k : ℕ) (t : Bool) → not (bit_at excluded k == 1) ≡ t
    → letters_among excluded (front ++ k ∷ []) ≡ letters_among excluded front ++ cond t (letter k ∷ []) []
unfolding letters_among
among_append excluded front k t is =
    let p : ℕ → Bool = λ i. not (bit_at excluded i == 1) in
    ap (map letter) (filter-append p front (k ∷ [])) ∙ map-append letter (filter p front) (filter p (k ∷ []))
    ∙ ap (λ (rest : List ℕ). map letter (filter p front) ++ rest) (one_letter k (p k) t is)

pub letters_none : (excluded : ℕ) → letters_among excluded (range_with_len 0 0) ≡ []
unfolding letters_among
letters_none excluded = refl

pub next_range : (k : ℕ) → range_with_len 0 (k + 1) ≡ range_with_len 0 k ++ k ∷ []
next_range k = let one : k + 1 ≡ suc k = omega arith in ap (range_with_len 0) one ∙ range_more 0 k ∙ ap (λ (j : ℕ). range_with_len 0 k ++ j ∷ []) (omega arith)

pub letters_taken : (excluded k : ℕ) → (bit_at excluded k == 1) ≡ false → letters_among excluded (range_with_len 0 (k + 1)) ≡ letters_among excluded (range_with_len 0 k) ++ letter k ∷ []
letters_taken excluded k is = ap (letters_among excluded) (next_range k) ∙ among_append excluded (range_with_len 0 k) k true (ap not is)

pub letters_passed : (excluded k : ℕ) → (bit_at excluded k == 1) ≡ true → letters_among excluded (range_with_len 0 (k + 1)) ≡ letters_among excluded (range_with_len 0 k)
letters_passed excluded k is = ap (letters_among excluded) (next_range k) ∙ among_append excluded (range_with_len 0 k) k false (ap not is) ∙ append-nil (letters_among excluded (range_with_len 0 k))

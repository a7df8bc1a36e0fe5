-- The cells in which a colour is left, gathered as a set of positions, some cells at a time.
use Rattle.std.proofs.Common.{◌≡◌, ℕ, zero, suc, ◌+◌, ◌-◌, ◌*◌, ◌%◌, ◌^◌, ◌<◌, ◌≤◌, Bool, true, false, cond, List, map, eqb, ◌==◌, bit_and, bit_or, refl, sym, ap, subst, ◌∙◌, arith, inl, inr, eq-eqb}
use Rattle.std.proofs.Common.{ne_eqb, length, get_or, replicate, take, drop, get_or-drop, w16}
use Rattle.std.specs.Int.{bit_at}
use Rattle.std.specs.Simd.Lanes.{zip2, chunk, top, mask_l}
use Rattle.std.proofs.Math.Bool.{or-false, or_self}
use Rattle.std.proofs.lemmas.Bool.{cases_lt}
use Rattle.std.proofs.lemmas.List.{get_or_past, get_or-map, get_or-take, length-map, length-replicate, length-take, take_all}
use Rattle.std.proofs.lemmas.Nat.{pow_pos}
use Rattle.std.proofs.lemmas.Nat.Bits.{bit_at-lt, and_pow}
use Rattle.std.proofs.lemmas.Simd.{length-chunk, get_or-chunk, length-zip2, zip2_splat, map-map, bitmask_splat, mask_l-lt}
use Rattle.std.proofs.lemmas.Grind.{one_shifted}
use mir.Val.{bool_byte}
use Rattle.line_settle.specs.Patterns.{allows}
use Rattle.line_facts.specs.BitSets.{has}
use Rattle.line_settle.proofs.BitLemmas.{allows_is, allows_none}
use Rattle.line_facts.proofs.BitSetLaws.{has_above, has_or, has_none}
use Rattle.line_settle.proofs.PositionLemmas.{has_one}
use Rattle.line_facts.proofs.BitSetLaws.{below_shifted, shifted, gathered_more, has_mask}

-- ---- s more cells before those that are gathered already

-- one cell more
pub gathered_one : (w : ℕ) (left : List ℕ) (cells low colour here next : ℕ) (b : Bool) → next ≡ here + 1 → low ≡ bool_byte b → b ≡ allows (get_or left here 0) colour
    → ((j : ℕ) → j < w → has cells j ≡ allows (get_or left (next + j) 0) colour) → (j : ℕ) → j < w → has (bit_or (cells * 2 ^ 1 % 2 ^ w) low) j ≡ allows (get_or left (here + j) 0) colour
gathered_one w left cells low colour here next b e is new before =
    let P : ℕ → Type 0 = λ n. n < 2 in
    gathered_more w 1 (λ n. allows (get_or left n 0) colour) cells low here next e (subst P (sym is) (small b)) (λ j h.
    let first : 0 ≡ j = omega arith in
    let place : here ≡ here + j = omega arith in
    ap (λ n. has n j) is ∙ (ap (λ n. has (bool_byte b) n) (sym first) ∙ (told b ∙ (new ∙ ap (λ n. allows (get_or left n 0) colour) place)))) before
  where
    small : (b : Bool) → bool_byte b < 2
    small true = omega arith
    small false = omega arith

    told : (b : Bool) → has (bool_byte b) 0 ≡ b
    told true = has_one 0
    told false = has_none 0

none_past : (left : List ℕ) (colour i : ℕ) → length left ≤ i → allows (get_or left i 0) colour ≡ false
none_past left colour i h = ap (λ m. allows m colour) (get_or_past left i 0 h) ∙ allows_none colour

pub none_gathered : (left : List ℕ) (colour j : ℕ) → has 0 j ≡ allows (get_or left (length left + j) 0) colour
none_gathered left colour j = has_none j ∙ sym (none_past left colour (length left + j) (omega arith))

-- the cells of the whole parts of s cells, and the last s cells laid over them
pub overlapped : (w s : ℕ) (left : List ℕ) (cells low colour whole last : ℕ) → last + s ≡ length left → last ≤ whole → whole ≤ length left → length left ≤ w → low < 2 ^ s
    → ((j : ℕ) → j < s → has low j ≡ allows (get_or left (last + j) 0) colour) → ((j : ℕ) → j < w → has cells j ≡ allows (get_or (take whole left) j 0) colour) → (i : ℕ) → i < w
    → has (bit_or cells (low * 2 ^ last % 2 ^ w)) i ≡ allows (get_or left i 0) colour
overlapped w s left cells low colour whole last e l ends room small new before i h =
    has_or cells (low * 2 ^ last % 2 ^ w) i ∙ elim (cases_lt i last) [
      | inl m ↦ rw (below_shifted w last low i m h, or-false, before i h, get_or-take whole left i 0 (omega arith)) refl
      | inr m ↦ rw (shifted w last low i (pow_pos last) m h, before i h) (elim (cases_lt (i - last) s) [
        | inl in_part ↦
            let q : last + (i - last) ≡ i = omega arith in
            rw (new (i - last) in_part, q) (elim (cases_lt i whole) [
              | inl b ↦ rw (get_or-take whole left i 0 b) (or_self (allows (get_or left i 0) colour))
              | inr b ↦ rw (none_past (take whole left) colour i (let n = length-take whole left in omega arith)) refl
            ])
        | inr past ↦
            rw (has_above s low (i - last) small past, or-false, none_past (take whole left) colour i (let n = length-take whole left in omega arith), none_past left colour i (omega arith)) refl
      ])
    ]

-- s cells more after those that are gathered already
pub none_taken : (left : List ℕ) (colour n j : ℕ) → n ≡ 0 → has 0 j ≡ allows (get_or (take n left) j 0) colour
none_taken left colour n j e = has_none j ∙ sym (none_past (take n left) colour j (let l = length-take n left in omega arith))

pub gathered_on : (w s : ℕ) (left : List ℕ) (cells low colour here next : ℕ) → next ≡ here + s → low < 2 ^ s → ((j : ℕ) → j < s → has low j ≡ allows (get_or left (here + j) 0) colour)
    → ((j : ℕ) → j < w → has cells j ≡ allows (get_or (take here left) j 0) colour) → (j : ℕ) → j < w → has (bit_or cells (low * 2 ^ here % 2 ^ w)) j ≡ allows (get_or (take next left) j 0) colour
gathered_on w s left cells low colour here next e small new before j h = has_or cells (low * 2 ^ here % 2 ^ w) j ∙ elim (cases_lt j here) [
  | inl m ↦ rw (below_shifted w here low j m h, or-false, before j h, get_or-take here left j 0 m, get_or-take next left j 0 (omega arith)) refl
  | inr m ↦
      rw (shifted w here low j (pow_pos here) m h, before j h, none_past (take here left) colour j (let n = length-take here left in omega arith))
      (elim (cases_lt (j - here) s) [
        | inl inside ↦
            let q : here + (j - here) ≡ j = omega arith in
            rw (new (j - here) inside, q, get_or-take next left j 0 (omega arith)) refl
        | inr past ↦ has_above s low (j - here) small past ∙ sym (none_past (take next left) colour j (let n = length-take next left in omega arith))
      ])
]

-- the first s cells alone
pub gathered_first : (s : ℕ) (left : List ℕ) (low colour : ℕ) → low < 2 ^ s → ((j : ℕ) → j < s → has low j ≡ allows (get_or left (0 + j) 0) colour) → (j : ℕ)
    → has low j ≡ allows (get_or (take s left) j 0) colour
gathered_first s left low colour small is j = elim (cases_lt j s) [
  | inl l ↦
      let z : 0 + j ≡ j = omega arith in
      rw (is j l, z, get_or-take s left j 0 l) refl
  | inr m ↦ has_above s low j small m ∙ sym (none_past (take s left) colour j (let n = length-take s left in omega arith))
]

-- all cells, where they are at most 64
pub whole_word : (left : List ℕ) (cells colour : ℕ) → cells < 2 ^ 64 → length left ≤ 64 → ((j : ℕ) → j < 64 → has cells j ≡ allows (get_or left j 0) colour) → (j : ℕ)
    → has cells j ≡ allows (get_or left j 0) colour
whole_word left cells colour small short is j = elim (cases_lt j 64) [
  | inl l ↦ is j l
  | inr m ↦ has_above 64 cells j small m ∙ sym (none_past left colour j (omega arith))
]

pub whole_taken : (left : List ℕ) (colour n j : ℕ) → length left ≤ n → allows (get_or (take n left) j 0) colour ≡ allows (get_or left j 0) colour
whole_taken left colour n j h = ap (λ (xs : List ℕ). allows (get_or xs j 0) colour) (take_all n left h)

pub whole_both : (left : List ℕ) (cells low colour : ℕ) → cells < 2 ^ 64 → low < 2 ^ 64 → length left ≤ 64 → ((j : ℕ) → j < 64 → has (bit_or cells low) j ≡ allows (get_or left j 0) colour) → (j : ℕ)
    → has (bit_or cells low) j ≡ allows (get_or left j 0) colour
whole_both left cells low colour small few short is j = elim (cases_lt j 64) [
  | inl l ↦ is j l
  | inr m ↦ rw (has_or, has_above 64 cells j small m, has_above 64 low j few m) (sym (none_past left colour j (omega arith)))
]

-- the first 64 cells, and those after them
pub two_halves : (w : ℕ) (left : List ℕ) (front rest colour : ℕ) → front < 2 ^ 64 → ((i : ℕ) → has front i ≡ allows (get_or (take 64 left) i 0) colour)
    → ((i : ℕ) → has rest i ≡ allows (get_or (drop 64 left) i 0) colour) → (i : ℕ) → i < w → has (bit_or front (rest * 2 ^ 64 % 2 ^ w)) i ≡ allows (get_or left i 0) colour
two_halves w left front rest colour small f r i h = has_or front (rest * 2 ^ 64 % 2 ^ w) i ∙ elim (cases_lt i 64) [
  | inl m ↦ rw (below_shifted w 64 rest i m h, or-false, f i, get_or-take 64 left i 0 m) refl
  | inr m ↦
      let q : 64 + (i - 64) ≡ i = omega arith in
      rw (shifted w 64 rest i (pow_pos 64) m h, has_above 64 front i small m, r (i - 64), get_or-drop 64 left (i - 64) 0, q) refl
]

-- ---- s cells that are compared together

-- a cell has all bits of a mask
abbrev covers : ℕ → ℕ → Bool
covers bit cell = eqb (bit_and cell bit) bit

covers_is : (cell colour : ℕ) → covers (2 ^ colour) cell ≡ allows cell colour
covers_is cell colour = ap (λ n. eqb n (2 ^ colour)) (and_pow cell colour) ∙ (once (bit_at cell colour) (2 ^ colour) (bit_at-lt cell colour) (pow_pos colour) ∙ sym (allows_is cell colour))
  where
    once : (b p : ℕ) → b < 2 → 0 < p → eqb (b * p) p ≡ (b == 1)
    once zero p h i = ne_eqb (zero * p) p (λ e. absurd (omega arith))
    once (suc zero) p h i = eq-eqb (suc zero * p) p (omega arith)
    once (suc (suc b)) p h i = absurd (omega arith)

-- what the comparison of s cells gives
abbrev pub compared : ℕ → ℕ → List ℕ → ℕ
compared s bit cells = mask_l (map (top 15) (zip2 (λ (a b : ℕ). cond (eqb a b) 65535 0) (zip2 bit_and cells (replicate s bit)) (replicate s bit))) % 2 ^ 64

compared_is : (s bit : ℕ) (cells : List ℕ) → s ≤ 64 → length cells ≡ s → compared s bit cells ≡ mask_l (map (covers bit) cells)
compared_is s bit cells few h =
    let n : length (zip2 bit_and cells (replicate s bit)) ≡ s = length-zip2 bit_and cells (replicate s bit) (h ∙ sym (length-replicate s bit)) ∙ h in
    bitmask_splat w16 eqb (zip2 bit_and cells (replicate s bit)) s bit n few
    ∙ (ap (λ xs. mask_l (map (λ x. eqb x bit) xs)) (zip2_splat bit_and cells s bit h)
    ∙ ap mask_l (map-map (λ x. eqb x bit) (λ x. bit_and x bit) cells))

pub compared-lt : (s bit : ℕ) (cells : List ℕ) → s ≤ 64 → length cells ≡ s → compared s bit cells < 2 ^ s
compared-lt s bit cells few h =
    let P : ℕ → Type 0 = λ n. n < 2 ^ s in
    let Q : ℕ → Type 0 = λ n. mask_l (map (covers bit) cells) < 2 ^ n in
    subst P (sym (compared_is s bit cells few h)) (subst Q (length-map cells (covers bit) ∙ h) (mask_l-lt (map (covers bit) cells)))

pub compared_each : (s : ℕ) (left : List ℕ) (first colour i : ℕ) → s ≤ 64 → colour < 16 → first + s ≤ length left → i < s
    → has (compared s (1 * 2 ^ colour % 65536) (chunk first s left)) i ≡ allows (get_or left (first + i) 0) colour
compared_each s left first colour i few h room l =
    let bit = 1 * 2 ^ colour % 65536 in
    let cells = chunk first s left in
    let n : length cells ≡ s = length-chunk first s left room in
    rw (compared_is s bit cells few n, has_mask, get_or-map (covers bit) cells i 0 false (omega arith), get_or-chunk first s left i 0 l, (one_shifted colour 65535 refl h).0)
    (covers_is (get_or left (first + i) 0) colour)

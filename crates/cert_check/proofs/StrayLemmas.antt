-- Colours beside the picture's, counted over all cells.
use Rattle.std.proofs.Common.{◌≡◌, ◌≢◌, ℕ, zero, suc, ◌+◌, ◌*◌, ◌%◌, ◌^◌, ◌<◌, ◌≤◌, ◌↔◌, ◌==◌, if◌then◌else◌, Bool, true, false, cond, eqb-true, length, refl, sym, ap, subst, ◌∙◌, arith, inl, inr}
use Rattle.std.proofs.Common.{bit_and}
use Rattle.std.specs.Prelude.{IsBitSet}
use Rattle.std.specs.Int.{bit_not, w16}
use Rattle.std.proofs.lemmas.Bool.{cases_eq}
use Rattle.picture.proofs.BitLaws.{no_bit, power_has, same_bits}
use Rattle.line_facts.proofs.MaskLaws.{shifted, without_bit}
use Rattle.line_facts.specs.Masks.{Masks}
use Rattle.line_facts.specs.FactSets.{IsFacts, SameShape}
use Rattle.line_facts.proofs.GridLaws.{at_with_cell, off_with_cell}
use Rattle.picture.specs.Picture.{IsPicture}
use Rattle.picture.specs.Rows.{cell_at, row_at, width_of, with_cell, Rows}
use Rattle.cert_check.specs.Puzzle.{ShowsOnly}
use Rattle.cert_check.specs.Strays.{row_strays, stray, strays_above, strays_of, tally}
use Rattle.cert_check.proofs.BaseLemmas.{left_inside}

-- ---- one cell

-- no bit but one is left exactly where every bit is that one
only_bit : (left colour low : ℕ) → left < 2 ^ 16 → colour < 16 → low ≡ 2 ^ colour → (bit_and left (bit_not w16 low) ≡ 0) ↔ ((k : ℕ) → IsBitSet left k → k ≡ colour)
only_bit left colour low q c is =
    let one : (j : ℕ) → IsBitSet low j ↔ (j ≡ colour) = rw is (power_has colour) in
    let small : low < 2 ^ 16 = omega (arith, is, two_powers colour c) in
    let rest = bit_and left (bit_not w16 low) in (
      (λ z k s. elim (cases_eq k colour) [
        | inl i ↦ i
        | inr n ↦ let P : ℕ → Type 0 = λ m. IsBitSet m k in absurd (no_bit k (subst P z ((without_bit left low k q small).1 (s, λ t. n ((one k).0 t)))))
      ]),
      (λ h. same_bits rest 0
          (λ k. (
            (λ s. let b = (without_bit left low k q small).0 s in absurd (b.1 ((one k).1 (h k b.0)))),
            (λ s. absurd (no_bit k s)),
          ))),
    )
  where
    two_powers : (colour : ℕ) → colour < 16 → 2 ^ colour < 2 ^ 16
    two_powers colour c = let e = shifted colour c in omega arith

abbrev one_unless : ℕ → ℕ
one_unless x = if x == 0 then 0 else 1

unless_none : (x : ℕ) → (x ≡ 0 → ⊥) → one_unless x ≡ 1
unless_none x n = by (x == 0) refl
  where
    by : (b : Bool) → (x == 0) ≡ b → one_unless x ≡ 1
    by true e = absurd (n (eqb-true x 0 e))
    by false e = ap (λ (t : Bool). cond {A = ℕ} t 0 1) e

if_none : (x : ℕ) → x ≡ 0 → one_unless x ≡ 0
if_none x e = ap one_unless e

pub no_stray : (mask colour low : ℕ) → colour < 16 → low ≡ 1 * 2 ^ colour % 65536 → bit_and mask (bit_not w16 low) ≡ 0 → 0 ≡ stray mask colour
no_stray mask colour low c e z =
    let is : low ≡ 2 ^ colour = e ∙ shifted colour c in
    sym (if_none (bit_and mask (bit_not w16 (2 ^ colour))) (ap (λ (n : ℕ). bit_and mask (bit_not w16 n)) (sym is) ∙ z))

pub one_stray : (mask colour low : ℕ) → colour < 16 → low ≡ 1 * 2 ^ colour % 65536 → (bit_and mask (bit_not w16 low) ≡ 0 → ⊥) → 1 ≡ stray mask colour
one_stray mask colour low c e n =
    let is : low ≡ 2 ^ colour = e ∙ shifted colour c in
    sym (unless_none (bit_and mask (bit_not w16 (2 ^ colour))) (λ z. n (ap (λ (n : ℕ). bit_and mask (bit_not w16 n)) is ∙ z)))

pub stray_small : (mask colour : ℕ) → stray mask colour ≤ 1
stray_small mask colour = elim (cases_eq (bit_and mask (bit_not w16 (2 ^ colour))) 0) [
  | inl e ↦ let z = if_none (bit_and mask (bit_not w16 (2 ^ colour))) e in omega arith
  | inr n ↦ let z = unless_none (bit_and mask (bit_not w16 (2 ^ colour))) n in omega arith
]

none_stray : (mask colour : ℕ) → mask < 2 ^ 16 → colour < 16 → (stray mask colour ≡ 0) ↔ ((k : ℕ) → IsBitSet mask k → k ≡ colour)
none_stray mask colour q c = (
  (λ z. (only_bit mask colour (2 ^ colour) q c refl).0 (elim (cases_eq (bit_and mask (bit_not w16 (2 ^ colour))) 0) [
    | inl e ↦ e
    | inr n ↦ absurd (let o = unless_none (bit_and mask (bit_not w16 (2 ^ colour))) n in omega arith)
  ])),
  (λ h. if_none (bit_and mask (bit_not w16 (2 ^ colour))) ((only_bit mask colour (2 ^ colour) q c refl).1 h)),
)

-- ---- sums

pub tally_same : (f g : ℕ → ℕ) (n : ℕ) → ((i : ℕ) → i < n → f i ≡ g i) → tally f n ≡ tally g n
tally_same f g zero h = refl
tally_same f g (suc n) h =
    let e = tally_same f g n (λ i l. h i (omega arith)) in
    let l = h n (omega arith) in
    omega arith

-- one value changes
pub tally_change : (f g : ℕ → ℕ) (n j : ℕ) → j < n → ((i : ℕ) → i < n → i ≢ j → f i ≡ g i) → tally g n + f j ≡ tally f n + g j
tally_change f g zero j l h = absurd (omega arith)
tally_change f g (suc n) j l h = elim (cases_eq n j) [
  | inl e ↦
      let s = tally_same f g n (λ i k. h i (omega arith) (λ (x : i ≡ j). omega arith)) in
      let a : f n ≡ f j = ap f e in
      let b : g n ≡ g j = ap g e in
      omega arith
  | inr d ↦
      let s = tally_change f g n j (omega arith) (λ i k. h i (omega arith)) in
      let a = h n (omega arith) d in
      omega arith
]

pub tally_below : (f : ℕ → ℕ) (n m : ℕ) → ((i : ℕ) → i < n → f i ≤ m) → tally f n ≤ n * m
tally_below f zero m h = omega arith
tally_below f (suc n) m h =
    let s = tally_below f n m (λ i l. h i (omega arith)) in
    let a = h n (omega arith) in
    omega arith

-- each value is at most the sum
pub tally_part : (f : ℕ → ℕ) (n j : ℕ) → j < n → f j ≤ tally f n
tally_part f zero j l = absurd (omega arith)
tally_part f (suc n) j l = elim (cases_eq n j) [
  | inl e ↦ let a : f n ≡ f j = ap f e in omega arith
  | inr d ↦ let s = tally_part f n j (omega arith) in omega arith
]

pub tally_none : (f : ℕ → ℕ) (n : ℕ) → ((i : ℕ) → i < n → f i ≡ 0) → tally f n ≡ 0
tally_none f zero h = refl
tally_none f (suc n) h =
    let s = tally_none f n (λ i l. h i (omega arith)) in
    let a = h n (omega arith) in
    omega arith

pub tally_more : (f : ℕ → ℕ) (n : ℕ) → tally f (n + 1) ≡ tally f n + f n
tally_more f n = ap (tally f) (let e : n + 1 ≡ suc n = omega arith in e)

-- ---- all cells

pub row_small : (picture : Rows) (facts : Masks) (row width : ℕ) → row_strays picture facts row width ≤ width
row_small picture facts row width =
    let s = tally_below (λ col. stray (cell_at facts row col) (cell_at picture row col)) width 1 (λ col l. stray_small (cell_at facts row col) (cell_at picture row col)) in
    omega arith

pub above_small : (picture : Rows) (facts : Masks) (height : ℕ) → width_of picture ≤ 120 → height ≤ 120 → strays_above picture facts height ≤ 14400
above_small picture facts height w h =
    let s = tally_below (λ row. row_strays picture facts row (width_of picture)) height 120 (λ row l. let b = row_small picture facts row (width_of picture) in omega arith) in
    omega arith

-- a cell changes: what it added is taken away, and what it adds is added
pub strays_change : (picture : Rows) (facts : Masks) (row col held : ℕ) → row < length picture → col < width_of picture → row < length facts → col < length (row_at facts row)
    → strays_of picture (with_cell facts row col held) + stray (cell_at facts row col) (cell_at picture row col) ≡ strays_of picture facts + stray held (cell_at picture row col)
strays_change picture facts row col held h w a b =
    let new = with_cell facts row col held in
    let width = width_of picture in
    let here = at_with_cell facts row col held a b in
    let one = tally_change (λ c. stray (cell_at facts row c) (cell_at picture row c)) (λ c. stray (cell_at new row c) (cell_at picture row c)) width col w
    (λ c l d. ap (λ (m : ℕ). stray m (cell_at picture row c)) (sym (off_with_cell facts row col held row c (λ p. d p.1)))) in
    let same : stray (cell_at new row col) (cell_at picture row col) ≡ stray held (cell_at picture row col) = ap (λ (m : ℕ). stray m (cell_at picture row col)) here in
    let all = tally_change (λ r. row_strays picture facts r width) (λ r. row_strays picture new r width) (length picture) row h
    (λ r l d. tally_same (λ c. stray (cell_at facts r c) (cell_at picture r c)) (λ c. stray (cell_at new r c) (cell_at picture r c)) width
    (λ c k. ap (λ (m : ℕ). stray m (cell_at picture r c)) (sym (off_with_cell facts row col held r c (λ p. d p.0))))) in
    omega arith

-- a cell adds no more than all do
pub stray_in : (picture : Rows) (facts : Masks) (row col : ℕ) → row < length picture → col < width_of picture → stray (cell_at facts row col) (cell_at picture row col) ≤ strays_of picture facts
stray_in picture facts row col h w =
    let one = tally_part (λ c. stray (cell_at facts row c) (cell_at picture row c)) (width_of picture) col w in
    let all = tally_part (λ r. row_strays picture facts r (width_of picture)) (length picture) row h in
    omega arith

-- there is none exactly where no colour is left but the picture's
pub none_shows : (picture : Rows) (facts : Masks) → IsPicture picture → IsFacts facts → SameShape picture facts → (strays_of picture facts ≡ 0) ↔ ShowsOnly picture facts
none_shows picture facts is f shape = (shows, none)
  where
    shows : strays_of picture facts ≡ 0 → ShowsOnly picture facts
    shows z row col k l =
        let inside = left_inside facts row col k l in
        let rows = shape.rows in
        let each = shape.each row in
        let wide = is.rectangular row (omega arith) in
        let s = stray_in picture facts row col (omega arith) (omega arith) in
        (none_stray (cell_at facts row col) (cell_at picture row col) (f.masks row col) (is.colours row col)).0 (omega arith) k l

    none : ShowsOnly picture facts → strays_of picture facts ≡ 0
    none only =
        tally_none (λ row. row_strays picture facts row (width_of picture)) (length picture)
        (λ row l. tally_none (λ col. stray (cell_at facts row col) (cell_at picture row col)) (width_of picture)
        (λ col m. (none_stray (cell_at facts row col) (cell_at picture row col) (f.masks row col) (is.colours row col)).1 (only row col)))

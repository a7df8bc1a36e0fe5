-- The colours of a mask, and the branches that notes record.
use Rattle.std.proofs.Common.{◌≡◌, ◌≢◌, ℕ, zero, suc, ◌+◌, ◌*◌, ◌%◌, ◌^◌, ◌<◌, ◌≤◌, ◌==◌, Bool, true, false, cond, List, [], ◌∷◌, ◌++◌, length, map, bit_and, reverse, refl, sym, ap, subst, ◌∙◌, arith}
use Rattle.std.proofs.Common.{inl, inr, eqb-true, eq-eqb}
use Rattle.std.specs.List.{filter, range_with_len}
use Rattle.std.specs.Int.{bit_at, bit_not, trailing_zeros, w16}
use Rattle.std.proofs.lemmas.Bool.{cases_eq}
use Rattle.std.proofs.lemmas.List.{reverse-append}
use Rattle.std.proofs.lemmas.Nat.Bits.{bit_at-zero, bit_at-trailing_zeros, bit_at_clear_same, bit_at_clear_other}
use Rattle.line_facts.specs.Masks.{Masks}
use Rattle.picture.specs.Rows.{width_of, cell_at, with_cell}
use Rattle.line_facts.specs.FactSets.{IsFacts}
use Rattle.trail.specs.declared.cell.Cell.{Cell}
use Rattle.trail.specs.declared.note.CellMask.{CellMask}
use Rattle.trail.specs.declared.note.Wait.{Wait}
use Rattle.trail.specs.declared.note.Wait.TheVariants.{Each, Whole}
use Rattle.trail.specs.declared.note.Note.{Note}
use Rattle.trail.specs.declared.note.Note.TheVariants.{Restore, Branch}
use Rattle.trail.specs.Trail.{AreInside, IsInside, LiesInside, Trailed, cells_held, place, places, trail_of, waiting}
use Rattle.line_facts.proofs.MaskLaws.{lowest_below, shifted}
use Rattle.line_facts.specs.Branches.{branches, colours_of, held}
use Rattle.trail.proofs.GridLemmas.{cell_back}

abbrev from : ℕ → ℕ → ℕ → List ℕ
from mask k n = filter (λ j. bit_at mask j == 1) (range_with_len k n)

tested : (mask k n : ℕ) (b : Bool) → (bit_at mask k == 1) ≡ b → from mask k (suc n) ≡ cond b (k ∷ from mask (k + 1) n) (from mask (k + 1) n)
tested mask k n b e = ap (λ (t : Bool). cond t (k ∷ from mask (k + 1) n) (from mask (k + 1) n)) e

not_one : (n : ℕ) → n ≢ 1 → (n == 1) ≡ false
not_one n d = by (n == 1) refl
  where
    by : (b : Bool) → (n == 1) ≡ b → b ≡ false
    by true e = absurd (d (eqb-true n 1 e))
    by false e = refl

-- masks that agree from a number on have the same colours from there
agree : (a b k n : ℕ) → ((j : ℕ) → k ≤ j → j < k + n → bit_at a j ≡ bit_at b j) → from a k n ≡ from b k n
agree a b k zero h = refl
agree a b k (suc n) h =
    let e : (bit_at a k == 1) ≡ (bit_at b k == 1) = ap (λ m. m == 1) (h k (omega arith) (omega arith)) in
    let r = agree a b (k + 1) n (λ j l m. h j (omega arith) (omega arith)) in
    tested a k n (bit_at b k == 1) e ∙ ap (λ (xs : List ℕ). cond (bit_at b k == 1) (k ∷ xs) xs) r

none_of : (k n : ℕ) → from 0 k n ≡ []
none_of k zero = refl
none_of k (suc n) = tested 0 k n false (not_one (bit_at 0 k) (λ e. absurd (let z = bit_at-zero k in omega arith))) ∙ none_of (k + 1) n

-- the first colour of a mask, and the others
first_of : (mask rest first k n : ℕ) → k ≤ first → first < k + n → bit_at mask first ≡ 1 → bit_at rest first ≡ 0 → ((j : ℕ) → j < first → bit_at mask j ≡ 0)
    → ((j : ℕ) → j < k + n → j ≢ first → bit_at rest j ≡ bit_at mask j) → from mask k n ≡ first ∷ from rest k n
first_of mask rest first k zero l m one none below other = absurd (omega arith)
first_of mask rest first k (suc n) l m one none below other = elim (cases_eq k first) [
  | inl e ↦
      let here : (bit_at mask k == 1) ≡ true = eq-eqb (bit_at mask k) 1 (ap (bit_at mask) e ∙ one) in
      let gone : (bit_at rest k == 1) ≡ false = not_one (bit_at rest k) (λ x. absurd (let y = ap (bit_at rest) e in omega arith)) in
      tested mask k n true here
      ∙ (ap (λ (xs : List ℕ). k ∷ xs) (agree mask rest (k + 1) n (λ j p q. sym (other j (omega arith) (omega arith))))
      ∙ (ap (λ (x : ℕ). x ∷ from rest (k + 1) n) e ∙ ap (λ (xs : List ℕ). first ∷ xs) (sym (tested rest k n false gone))))
  | inr d ↦
      let low : bit_at mask k ≡ 0 = below k (omega arith) in
      let same = other k (omega arith) d in
      let here : (bit_at mask k == 1) ≡ false = not_one (bit_at mask k) (λ x. absurd (omega arith)) in
      let gone : (bit_at rest k == 1) ≡ false = not_one (bit_at rest k) (λ x. absurd (omega arith)) in
      tested mask k n false here
      ∙ (first_of mask rest first (k + 1) n (omega arith) (omega arith) one none below (λ j p q. other j (omega arith) q)
      ∙ ap (λ (xs : List ℕ). first ∷ xs) (sym (tested rest k n false gone)))
]

pub no_colours : colours_of 0 ≡ []
unfolding colours_of
no_colours = none_of 0 16

pub lowest_colour : (mask : ℕ) → 0 < mask → mask < 2 ^ 16 → colours_of mask ≡ trailing_zeros w16 mask ∷ colours_of (bit_and mask (bit_not w16 (1 * 2 ^ trailing_zeros w16 mask % 65536)))
unfolding colours_of
lowest_colour mask p q =
    let t = bit_at-trailing_zeros w16 mask p q in
    let first = trailing_zeros w16 mask in
    let rest = bit_and mask (bit_not w16 (1 * 2 ^ first % 65536)) in
    first_of mask rest first 0 16 (omega arith) (omega (arith, t.0)) t.1 (bit_at_clear_same w16 mask first t.0) t.2 (λ j l n. bit_at_clear_other w16 mask first t.0 j (omega arith) n)

-- ---- notes

pub newest : (notes more : List Note) (note : Note) → more ≡ notes ++ note ∷ [] → reverse more ≡ note ∷ reverse notes
newest notes more note e = ap reverse e ∙ reverse-append notes (note ∷ [])

inside_same : (height width high wide : ℕ) (cell : CellMask) → high ≡ height → wide ≡ width → IsInside height width cell → IsInside high wide cell
inside_same height width high wide cell h w i = let a = i.in_rows in let b = i.in_columns in record { in_rows = omega arith; in_columns = omega arith; small = i.small }

lies_inside_same : (height width high wide : ℕ) (wait : Wait) → high ≡ height → wide ≡ width → LiesInside height width wait → LiesInside high wide wait
lies_inside_same height width high wide (Each cell) h w i = inside_same height width high wide cell h w i
lies_inside_same height width high wide (Whole cell) h w i = inside_same height width high wide cell h w i

pub are_inside_same : (height width high wide : ℕ) (notes : List Note) → high ≡ height → wide ≡ width → AreInside height width notes → AreInside high wide notes
are_inside_same height width high wide [] h w i = i
are_inside_same height width high wide (Restore cell ∷ notes) h w i = (inside_same height width high wide cell h w i.0, are_inside_same height width high wide notes h w i.1)
are_inside_same height width high wide (Branch wait ∷ notes) h w i = (lies_inside_same height width high wide wait h w i.0, are_inside_same height width high wide notes h w i.1)

-- a cell held to a mask, with the old one noted
pub holds : (s : Trailed) (facts new : Masks) (notes more : List Note) (cell : CellMask) (mask : ℕ) → trail_of facts (waiting facts (reverse notes)) (cells_held (reverse notes)) ≡ s → IsFacts facts
    → cell.row < length s.at_hand → cell.col < width_of s.at_hand → cell.mask ≡ cell_at facts cell.row cell.col → new ≡ with_cell facts cell.row cell.col mask → more ≡ notes ++ Restore cell ∷ []
    → trail_of new (waiting new (reverse more)) (cells_held (reverse more)) ≡ trail_of (with_cell s.at_hand cell.row cell.col mask) s.behind s.cells
holds s facts new notes more cell mask v is h w m n e =
    let front = ap (λ (x : Trailed). x.at_hand) v in
    let tall = ap length front in
    let wide = ap width_of front in
    let back : with_cell (with_cell facts cell.row cell.col mask) cell.row cell.col cell.mask ≡ facts =
    ap (λ x. with_cell (with_cell facts cell.row cell.col mask) cell.row cell.col x) m ∙ cell_back facts cell.row cell.col mask (omega arith) (omega arith) in
    let held_to = with_cell facts cell.row cell.col mask in
    let behind : waiting held_to (reverse more) ≡ s.behind =
    ap (waiting held_to) (newest notes more (Restore cell) e) ∙ (ap (λ x. waiting x (reverse notes)) back ∙ ap (λ (x : Trailed). x.behind) v) in
    let cells : cells_held (reverse more) ≡ s.cells = ap cells_held (newest notes more (Restore cell) e) ∙ ap (λ (x : Trailed). x.cells) v in
    rw n (ap (λ (x : List (List (List ℕ))). trail_of held_to x (cells_held (reverse more))) behind
    ∙ (ap (λ (x : List Cell). trail_of held_to s.behind x) cells
    ∙ ap (λ (x : List (List ℕ)). trail_of (with_cell x cell.row cell.col mask) s.behind s.cells) front))

-- no colours make no branches
pub no_branches : (s : Trailed) (row col mask : ℕ) → mask ≡ 0 → s ≡ trail_of s.at_hand (branches s.at_hand row col mask ++ s.behind) (places row col mask ++ s.cells)
no_branches s row col mask e = ap (λ xs. trail_of s.at_hand (held s.at_hand row col xs ++ s.behind) (map (λ (k : ℕ). place row col) xs ++ s.cells)) (sym (ap colours_of e ∙ no_colours))

-- the first branch begun, and the others put before what waits
pub begins : (s t u : Trailed) (row col mask lowest rest : ℕ) → 0 < mask → mask < 2 ^ 16 → lowest ≡ 1 * 2 ^ trailing_zeros w16 mask % 65536 → rest ≡ bit_and mask (bit_not w16 lowest)
    → t ≡ trail_of s.at_hand (branches s.at_hand row col rest ++ s.behind) (places row col rest ++ s.cells) → u ≡ trail_of (with_cell t.at_hand row col lowest) t.behind t.cells
    → branches s.at_hand row col mask ++ s.behind ≡ u.at_hand ∷ u.behind
begins s t u row col mask lowest rest p q l r et eu =
    let power : 2 ^ trailing_zeros w16 mask ≡ lowest = sym (l ∙ shifted (trailing_zeros w16 mask) (lowest_below mask p q)) in
    let others : bit_and mask (bit_not w16 (1 * 2 ^ trailing_zeros w16 mask % 65536)) ≡ rest = ap (λ n. bit_and mask (bit_not w16 n)) (sym l) ∙ sym r in
    let front : with_cell s.at_hand row col lowest ≡ u.at_hand = sym (ap (λ (x : Trailed). x.at_hand) eu ∙ ap (λ (x : Trailed). with_cell x.at_hand row col lowest) et) in
    let behind : branches s.at_hand row col rest ++ s.behind ≡ u.behind = sym (ap (λ (x : Trailed). x.behind) eu ∙ ap (λ (x : Trailed). x.behind) et) in
    ap (λ xs. xs ++ s.behind) (ap (held s.at_hand row col) (lowest_colour mask p q))
    ∙ (ap (λ n. with_cell s.at_hand row col n ∷ (branches s.at_hand row col (bit_and mask (bit_not w16 (1 * 2 ^ trailing_zeros w16 mask % 65536))) ++ s.behind)) power
    ∙ (ap (λ n. with_cell s.at_hand row col lowest ∷ (branches s.at_hand row col n ++ s.behind)) others
    ∙ (ap (λ x. x ∷ (branches s.at_hand row col rest ++ s.behind)) front ∙ ap (λ xs. u.at_hand ∷ xs) behind)))

-- its cell is the one held
pub begins_held : (s t u : Trailed) (row col mask lowest rest : ℕ) → 0 < mask → mask < 2 ^ 16 → lowest ≡ 1 * 2 ^ trailing_zeros w16 mask % 65536 → rest ≡ bit_and mask (bit_not w16 lowest)
    → t ≡ trail_of s.at_hand (branches s.at_hand row col rest ++ s.behind) (places row col rest ++ s.cells) → u ≡ trail_of (with_cell t.at_hand row col lowest) t.behind t.cells
    → places row col mask ++ s.cells ≡ place row col ∷ u.cells
begins_held s t u row col mask lowest rest p q l r et eu =
    let others : bit_and mask (bit_not w16 (1 * 2 ^ trailing_zeros w16 mask % 65536)) ≡ rest = ap (λ n. bit_and mask (bit_not w16 n)) (sym l) ∙ sym r in
    let cells : places row col rest ++ s.cells ≡ u.cells = sym (ap (λ (x : Trailed). x.cells) eu ∙ ap (λ (x : Trailed). x.cells) et) in
    ap (λ xs. xs ++ s.cells) (ap (λ (xs : List ℕ). map (λ (k : ℕ). place row col) xs) (lowest_colour mask p q))
    ∙ (ap (λ n. place row col ∷ (places row col n ++ s.cells)) others ∙ ap (λ xs. place row col ∷ xs) cells)

-- a note of a cell with no colour left to try records no branch
pub skips : (facts : Masks) (height width : ℕ) (notes more : List Note) (cell : CellMask) → notes ≡ more ++ Branch (Each cell) ∷ [] → cell.mask ≡ 0 → (waiting facts (reverse notes)
    ≡ waiting facts (reverse more)) × ((cells_held (reverse notes) ≡ cells_held (reverse more)) × (AreInside height width (reverse notes) → AreInside height width (reverse more)))
skips facts height width notes more cell e z =
    let n = newest more notes (Branch (Each cell)) e in (
      ap (waiting facts) n ∙ ap (λ xs. held facts cell.row cell.col xs ++ waiting facts (reverse more)) (ap colours_of z ∙ no_colours),
      (
        ap cells_held n ∙ ap (λ xs. map (λ (k : ℕ). place cell.row cell.col) xs ++ cells_held (reverse more)) (ap colours_of z ∙ no_colours),
        (λ i. let P : List Note → Type 0 = AreInside height width in (subst P n i).1),
      ),
    )

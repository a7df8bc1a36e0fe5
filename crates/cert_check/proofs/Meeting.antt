-- Pictures that meet literals and lemmas, and the facts that they keep to.
use Rattle.std.proofs.Common.{◌≡◌, ◌⊎◌, ℕ, zero, suc, ◌-◌, ◌^◌, ◌<◌, Option, None, Some, List, [], ◌∷◌, ◌++◌, length, set, get_or-set_same, get_or-set_other, bit_and, sym, subst}
use Rattle.std.proofs.Common.{arith, inl, inr}
use Rattle.std.specs.Prelude.{IsBitSet}
use Rattle.std.specs.List.{AllByRecursion}
use Rattle.std.specs.Int.{bit_not, w16}
use Rattle.std.proofs.lemmas.Bool.{cases_eq, cases_lt}
use Rattle.std.proofs.lemmas.List.{get_or_past, length-set}
use Rattle.std.proofs.lemmas.Nat.Bits.{bit_at_not}
use Rattle.line_facts.specs.Masks.{Masks}
use Rattle.picture.proofs.BitLaws.{bit_is_set, bit_or_not, no_bit, unset}
use Rattle.picture.specs.Rows.{cell_at, row_at, with_cell, Rows}
use Rattle.line_facts.proofs.GridLaws.{shape_trans, shape_with_cell}
use Rattle.trail.proofs.GridLemmas.{row_there, set_each}
use Rattle.cert_check.specs.Puzzle.{HasCellNumber}
use Rattle.cert_check.proofs.Soundness.{IsRival, Keeps}
use Rattle.cert_text.specs.declared.cert_line.Literal.{Literal}
use Rattle.cert_check.specs.Lemmas.{HasLiteral, Lemmas, denied_all, held_by, held_off, held_to, lemma_at, left_of, still_open, used}
use Rattle.cert_check.proofs.MaskLemmas.{bits_in_and}
use Rattle.cert_check.proofs.OpenLemmas.{closed_first, open_first}

-- ---- colours

without_has : (mask colours k : ℕ) → colours < 2 ^ 16 → k < 16 → IsBitSet mask k → (IsBitSet colours k → ⊥) → IsBitSet (bit_and mask (bit_not w16 colours)) k
without_has mask colours k c l s n =
    bits_in_and mask (bit_not w16 colours) k s (bit_is_set (bit_not w16 colours) k (let e = unset colours k n in let m = bit_at_not w16 colours k c l in omega arith))

some_colour : (mask k : ℕ) → IsBitSet mask k → 0 < mask
some_colour mask k s = elim (cases_eq mask 0) [ inl e ↦ absurd (no_bit k (rw e at s)) | inr n ↦ omega arith ]

-- ---- literals

-- the cell lies in the picture, and has one of the colours
pub record Meets (other : Rows) (literal : Literal) : Type 0 where
  pub inside : literal.cell.col - 1 < length (row_at other (literal.cell.row - 1))
  pub has : IsBitSet literal.colours (cell_at other (literal.cell.row - 1) (literal.cell.col - 1))

abbrev pub MeetsSome : Rows → List Literal → Type 0
MeetsSome other [] = ⊥
MeetsSome other (literal ∷ literals) = Meets other literal ⊎ MeetsSome other literals

pub some_last : (other : Rows) (literals : List Literal) (literal : Literal) → Meets other literal → MeetsSome other (literals ++ literal ∷ [])
some_last other [] literal m = inl m
some_last other (first ∷ literals) literal m = inr (some_last other literals literal m)

pub some_more : (other : Rows) (literals : List Literal) (literal : Literal) → MeetsSome other literals → MeetsSome other (literals ++ literal ∷ [])
some_more other [] literal s = absurd s
some_more other (first ∷ literals) literal (inl m) = inl m
some_more other (first ∷ literals) literal (inr s) = inr (some_more other literals literal s)

module _ (facts : Masks) (other : Rows) (keeps : Keeps facts other) where
  -- a cell held to colours, of which the picture has one
  mask_keeps : (row col mask : ℕ) → col < length (row_at other row) → IsBitSet mask (cell_at other row col) → Keeps (with_cell facts row col mask) other
  mask_keeps row col mask inside s =
      let there = row_there other row col inside in
      let rows = keeps.same_shape.rows in
      let wide = keeps.same_shape.each row in
      record {
        same_shape = shape_trans keeps.same_shape (shape_with_cell facts row col mask);
        leaves = set_each facts row col mask (omega arith) (omega arith) (λ r c x. c < length (row_at other r) → IsBitSet x (cell_at other r c)) (λ m. s) (λ r c d. keeps.leaves r c);
      }

  left_met : (literal : Literal) → Meets other literal → IsBitSet (left_of facts literal) (cell_at other (literal.cell.row - 1) (literal.cell.col - 1))
  left_met literal m = bits_in_and _ literal.colours _ (keeps.leaves (literal.cell.row - 1) (literal.cell.col - 1) m.inside) m.has

  pub held_to_keeps : (literal : Literal) → Meets other literal → Keeps (held_to facts literal) other
  held_to_keeps literal m = mask_keeps (literal.cell.row - 1) (literal.cell.col - 1) (left_of facts literal) m.inside (left_met literal m)

  pub held_off_keeps : (literal : Literal) → literal.cell.col - 1 < length (row_at other (literal.cell.row - 1)) → cell_at other (literal.cell.row - 1) (literal.cell.col - 1) < 16
      → literal.colours < 2 ^ 16 → (IsBitSet literal.colours (cell_at other (literal.cell.row - 1) (literal.cell.col - 1)) → ⊥) → Keeps (held_off facts literal) other
  held_off_keeps literal inside small c n =
      let row = literal.cell.row - 1 in
      let col = literal.cell.col - 1 in
      mask_keeps row col (bit_and (cell_at facts row col) (bit_not w16 literal.colours)) inside
      (without_has (cell_at facts row col) literal.colours (cell_at other row col) c small (keeps.leaves row col inside) n)

  -- if the picture meets one of the literals, it meets one that is open
  open_met : (literals : List Literal) → MeetsSome other literals → MeetsSome other (still_open facts literals)
  open_met [] s = absurd s
  open_met (literal ∷ literals) (inl m) =
      let some = some_colour (left_of facts literal) _ (left_met literal m) in
      subst (MeetsSome other) (sym (open_first facts literal literals some)) (inl m)
  open_met (literal ∷ literals) (inr s) = elim (cases_eq (left_of facts literal) 0) [
    | inl e ↦ subst (MeetsSome other) (sym (closed_first facts literal literals e)) (open_met literals s)
    | inr n ↦ subst (MeetsSome other) (sym (open_first facts literal literals (omega arith))) (inr (open_met literals s))
  ]

  told_keeps : (literals : List Literal) → MeetsSome other literals → Keeps (held_by facts literals) other
  told_keeps [] s = absurd s
  told_keeps (literal ∷ []) (inl m) = held_to_keeps literal m
  told_keeps (literal ∷ []) (inr s) = absurd s
  told_keeps (literal ∷ next ∷ literals) s = keeps

  pub used_keeps : (literals : List Literal) → MeetsSome other literals → Keeps (used facts literals) other
  used_keeps literals s = told_keeps (still_open facts literals) (open_met literals s)

  pub none_open : (literals : List Literal) → MeetsSome other literals → still_open facts literals ≡ [] → ⊥
  none_open literals s e = subst (MeetsSome other) e (open_met literals s)

-- a literal of a picture's cell lies in each rival of the picture
pub lies_inside : (picture other : Rows) (literal : Literal) → IsRival picture other → HasCellNumber picture literal.cell → literal.cell.col - 1 < length (row_at other (literal.cell.row - 1))
lies_inside picture other literal rival has =
    let rows = rival.same_shape.rows in
    let columns = rival.same_shape.each 0 in
    let r = rival.is_picture.rectangular (literal.cell.row - 1) (omega arith) in
    omega arith

-- a rival keeps to one of two branches
pub parts : (picture : Rows) (facts : Masks) (other : Rows) (literal : Literal) → IsRival picture other → HasLiteral picture literal → Keeps facts other
    → Keeps (held_off facts literal) other ⊎ Meets other literal
parts picture facts other literal rival has keeps =
    let inside = lies_inside picture other literal rival has.0 in
    elim (bit_or_not literal.colours (cell_at other (literal.cell.row - 1) (literal.cell.col - 1))) [
      | inl s ↦ inr (record { inside = inside; has = s })
      | inr n ↦ inl (held_off_keeps facts other keeps literal inside (rival.is_picture.colours (literal.cell.row - 1) (literal.cell.col - 1)) has.1 n)
    ]

-- a picture that keeps to facts meets one of some literals, or keeps to the facts in which all are denied
pub met_or_denied : (picture : Rows) (facts : Masks) (other : Rows) (literals : List Literal) → IsRival picture other → AllByRecursion (HasLiteral picture) literals → Keeps facts other
    → MeetsSome other literals ⊎ Keeps (denied_all facts literals) other
met_or_denied picture facts other [] rival has keeps = inr keeps
met_or_denied picture facts other (literal ∷ literals) rival has keeps = elim (parts picture facts other literal rival has.0 keeps) [
  | inr m ↦ inl (inl m)
  | inl k ↦ elim (met_or_denied picture (held_off facts literal) other literals rival has.1 k) [ inl s ↦ inl (inr s) | inr d ↦ inr d ]
]

-- ---- lemmas

-- a lemma holds of a picture: if it is kept, the picture meets one of its literals
abbrev pub Stands : Rows → Option (List Literal) → Type 0
Stands other None = Unit {0}
Stands other (Some literals) = MeetsSome other literals

abbrev pub MeetsAll : Rows → Lemmas → Type 0
MeetsAll other lemmas = (n : ℕ) → Stands other (lemma_at lemmas n)

pub meets_kept : (other : Rows) (lemmas : Lemmas) (n : ℕ) (literals : List Literal) → MeetsAll other lemmas → lemma_at lemmas n ≡ Some literals → MeetsSome other literals
meets_kept other lemmas n literals all e = subst (Stands other) e (all n)

pub meets_without : (other : Rows) (lemmas : Lemmas) (n : ℕ) → MeetsAll other lemmas → MeetsAll other (set lemmas n None)
meets_without other lemmas i all n = elim (cases_eq n i) [
  | inr d ↦ subst (Stands other) (sym (get_or-set_other lemmas i n None None d)) (all n)
  | inl e ↦ elim (cases_lt i (length lemmas)) [
    | inl l ↦ rw e (subst (Stands other) (sym (get_or-set_same lemmas i None None l)) tt)
    | inr p ↦ subst (Stands other) (sym (get_or_past (set lemmas i None) n None (omega (arith, length-set lemmas i None)))) tt
  ]
]

pub meets_more : (other : Rows) (lemmas : Lemmas) (literals : List Literal) → MeetsAll other lemmas → MeetsSome other literals → MeetsAll other (lemmas ++ Some literals ∷ [])
meets_more other [] literals all some zero = some
meets_more other [] literals all some (suc n) = tt
meets_more other (lemma ∷ lemmas) literals all some zero = all 0
meets_more other (lemma ∷ lemmas) literals all some (suc n) = meets_more other lemmas literals (λ m. all (suc m)) some n

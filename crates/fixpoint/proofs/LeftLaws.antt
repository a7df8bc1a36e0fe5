-- What is left to do: it is bounded, and each line that is evaluated leaves less.
use Rattle.std.proofs.Common.{◌≡◌, ℕ, zero, suc, ◌+◌, ◌*◌, ◌^◌, ◌<◌, ◌≤◌, List, length, get_or, ◌==◌, cond, Bool, true, false, eq-eqb, eqb-true, refl, sym, ap, arith, inl, inr}
use Rattle.std.specs.Prelude.{IsBitSet}
use Rattle.std.proofs.lemmas.Bool.{cases_eq}
use Rattle.std.proofs.lemmas.List.{length-map}
use Rattle.line_facts.specs.Masks.{Masks}
use Rattle.picture.specs.declared.line_id.Axis.{Axis}
use Rattle.picture.specs.declared.line_id.Axis.TheVariants.{Across, Down}
use Rattle.picture.specs.declared.line_id.LineId.{LineId}
use Rattle.picture.specs.LineSet.{Lines, HasName, TakesOutName, name_count}
use Rattle.picture.specs.Rows.{width_of, row_at, cell_at, line_along, line_of, lines_along, HasLine}
use Rattle.line_facts.specs.FactSets.{IsFacts, IsWithin}
use Rattle.fixpoint.specs.ClosedFacts.{change, changes, PutsCrossing}
use Rattle.fixpoint.specs.LeftToDo.{left_to_do, sum_to, weight}
use Rattle.picture.proofs.BitLaws.{fewer_le}
use Rattle.line_facts.proofs.GridLaws.{cell_along}
use Rattle.fixpoint.proofs.NameLaws.{take_counts}

-- ---- cells that differ

change_none : (before after : ℕ) → before ≡ after → change before after ≡ 0
change_none before after e = let P : Bool → ℕ = λ b. cond b 0 1 in ap P (eq-eqb before after e)

pub change_some : (before after : ℕ) → (before ≡ after → ⊥) → change before after ≡ 1
change_some before after d = by (before == after) refl
  where
    by : (b : Bool) → (before == after) ≡ b → ◌≡◌ {A = ℕ} (cond b 0 1) 1
    by true e = absurd (d (eqb-true before after e))
    by false e = refl

-- a mask that changes gets smaller
mask_drops : (a b : ℕ) → ((k : ℕ) → IsBitSet b k → IsBitSet a k) → b + change a b ≤ a
mask_drops a b h =
    let l = fewer_le b a h in
    elim (cases_eq a b) [
      | inl e ↦ let z = change_none a b e in omega arith
      | inr d ↦ let o = change_some a b d in omega arith
    ]

-- ---- sums

sum_le : (f g : ℕ → ℕ) (n : ℕ) → ((i : ℕ) → i < n → f i ≤ g i) → sum_to f n ≤ sum_to g n
sum_le f g zero h = omega arith
sum_le f g (suc n) h = let r = sum_le f g n (λ i l. h i (omega arith)) in let t = h n (omega arith) in omega arith

sum_add : (f g : ℕ → ℕ) (n : ℕ) → sum_to (λ i. f i + g i) n ≡ sum_to f n + sum_to g n
sum_add f g zero = refl
sum_add f g (suc n) = let r = sum_add f g n in omega arith

sum_term : (f : ℕ → ℕ) (n k : ℕ) → k < n → f k ≤ sum_to f n
sum_term f zero k l = absurd (omega arith)
sum_term f (suc n) k l = elim (cases_eq k n) [
  | inl e ↦ let s = ap f e in omega arith
  | inr d ↦ let r = sum_term f n k (omega arith) in omega arith
]

sum_most : (f : ℕ → ℕ) (most n : ℕ) → ((i : ℕ) → f i ≤ most) → sum_to f n ≤ most * n
sum_most f most zero h = omega arith
sum_most f most (suc n) h = let r = sum_most f most n h in let t = h n in omega arith

pub changes_sum : (before after : List ℕ) (n : ℕ) → changes before after n ≡ sum_to (λ i. change (get_or before i 0) (get_or after i 0)) n
changes_sum before after zero = refl
changes_sum before after (suc n) = let r = changes_sum before after n in omega arith

-- ---- all cells

differing : ℕ → ℕ → Masks → Masks → ℕ
differing height width old new = sum_to (λ i. sum_to (λ j. change (cell_at old i j) (cell_at new i j)) width) height

weight_drops : (height width : ℕ) (old new : Masks) → IsWithin old new → weight height width new + differing height width old new ≤ weight height width old
unfolding weight differing
weight_drops height width old new w =
    let row : (i : ℕ) → sum_to (λ j. cell_at new i j) width + sum_to (λ j. change (cell_at old i j) (cell_at new i j)) width ≤ sum_to (λ j. cell_at old i j) width = λ i.
    let all = sum_le (λ j. cell_at new i j + change (cell_at old i j) (cell_at new i j)) (λ j. cell_at old i j) width (λ j _. mask_drops (cell_at old i j) (cell_at new i j) (w.leaves i j)) in
    let add = sum_add (λ j. cell_at new i j) (λ j. change (cell_at old i j) (cell_at new i j)) width in
    omega arith
    in
    let rows = sum_le (λ i. sum_to (λ j. cell_at new i j) width + sum_to (λ j. change (cell_at old i j) (cell_at new i j)) width) (λ i. sum_to (λ j. cell_at old i j) width) height (λ i _. row i) in
    let add = sum_add (λ i. sum_to (λ j. cell_at new i j) width) (λ i. sum_to (λ j. change (cell_at old i j) (cell_at new i j)) width) height in
    omega arith

changes_along : (axis : Axis) (at : ℕ) (old new : Masks) → IsFacts old → at < lines_along axis old
    → changes (line_along axis at old) (line_along axis at new) (length (line_along axis at old)) ≤ differing (length old) (width_of old) old new
unfolding differing
changes_along Across at old new is h =
    let all = sum_term (λ i. sum_to (λ j. change (cell_at old i j) (cell_at new i j)) (width_of old)) (length old) at h in
    let e = ap (changes (row_at old at) (row_at new at)) (is.rectangular at h) in
    let s = changes_sum (row_at old at) (row_at new at) (width_of old) in
    omega arith
changes_along Down at old new is h =
    let column = line_along Down at old in
    let other = line_along Down at new in
    let e = ap (changes column other) (length-map old (λ (row : List ℕ). get_or row at 0)) in
    let s = changes_sum column other (length old) in
    let one : (i : ℕ) → change (get_or column i 0) (get_or other i 0) ≤ sum_to (λ j. change (cell_at old i j) (cell_at new i j)) (width_of old) = λ i.
    let t = sum_term (λ j. change (cell_at old i j) (cell_at new i j)) (width_of old) at h in
    let x = ap (λ m. change m (get_or other i 0)) (cell_along Down at old i) in
    let y = ap (change (cell_at old i at)) (cell_along Down at new i) in
    omega arith
    in
    let all = sum_le (λ i. change (get_or column i 0) (get_or other i 0)) (λ i. sum_to (λ j. change (cell_at old i j) (cell_at new i j)) (width_of old)) (length old) (λ i _. one i) in
    omega arith

-- a line that is evaluated leaves no more: each line that it lets wait has lost a colour
pub no_more_left : (old new : Masks) (rest after : Lines) (line : LineId) → IsFacts old → HasLine old line → IsWithin old new → PutsCrossing line (line_of old line) (line_of new line) rest after
    → left_to_do new after ≤ left_to_do old rest
no_more_left old new rest after line is has w p =
    let drop = weight_drops (length old) (width_of old) old new w in
    let on = changes_along line.axis line.at old new is has in
    let rows = ap (λ n. weight n (width_of new) new) (sym w.same_shape.rows) in
    let wide : width_of old ≡ width_of new = w.same_shape.each 0 in
    let columns = ap (λ n. weight (length old) n new) (sym wide) in
    omega (arith, p.at_most, drop, on, rows, columns)

-- and where it waited itself, it leaves less
pub less_to_do : (old new : Masks) (agenda rest after : Lines) (line : LineId) → IsFacts old → HasLine old line → IsWithin old new → HasName agenda line → TakesOutName agenda rest line
    → PutsCrossing line (line_of old line) (line_of new line) rest after → left_to_do new after < left_to_do old agenda
less_to_do old new agenda rest after line is has w h t p =
    omega (arith, take_counts agenda rest line h t, no_more_left old new rest after line is has w p)

-- there is little to do at first
pub little_left : (facts : Masks) (due : Lines) → IsFacts facts → name_count due ≡ length facts + width_of facts → left_to_do facts due < 2 ^ 30
unfolding weight
little_left facts due is count =
    let height = length facts in
    let width = width_of facts in
    let row : (i : ℕ) → sum_to (λ j. cell_at facts i j) width ≤ 65535 * 120 = λ i.
    let most = sum_most (λ j. cell_at facts i j) 65535 width (λ j. let m = is.masks i j in omega arith) in
    omega (arith, most, is.columns_fit)
    in
    let all = sum_most (λ i. sum_to (λ j. cell_at facts i j) width) (65535 * 120) height row in
    omega (arith, all, is.rows_fit, is.columns_fit, count)

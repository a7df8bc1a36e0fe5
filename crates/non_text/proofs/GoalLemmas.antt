-- The digits of a goal, and the cells that they give.
use Rattle.std.proofs.Common.{◌≡◌, ◌≢◌, ℕ, zero, suc, ◌-◌, ◌*◌, ◌<◌, Bool, true, false, cond, eqb, List, [], ◌∷◌, length, get_or, take, drop, map, Some, None, Ok, Err, refl, sym, ap, ◌∙◌, arith, inl}
use Rattle.std.proofs.Common.{inr, ◌&&◌}
use Rattle.std.specs.Option.{ok_or, option_and_then}
use Rattle.std.specs.List.{slice_split, onto_first, list_all, join_with_byte}
use Rattle.std.proofs.lemmas.Bool.{cases_Bool, eq-eqb, eqb-true, false≢true, ne_eqb, or_cases}
use Rattle.std.proofs.lemmas.List.{get_or_past, length-map, take_all}
use Rattle.std.proofs.lemmas.List.Splits.{join_with_byte-slice_split}
use Rattle.picture.specs.Rows.{rows_of}
use Rattle.non_text.specs.declared.fault.NonFault.TheVariants.{BadGoal}
use Rattle.non_text.specs.Bytes.{is_empty, is_blank}
use Rattle.non_text.proofs.BytesLemmas.{past_blanks_blank, past_blanks_other}
use Rattle.non_text.specs.Lines.{is_blank_line}
use Rattle.non_text.specs.Goal.{quoted, goal_digits, is_cell_digit, cell_of, goal_rows, goal_in}

-- ---- quotes

no_quote : (b : ℕ) → is_blank b ≡ true → eqb b 34 ≡ false
unfolding is_blank
no_quote b e = elim (or_cases (eqb b 32) (eqb b 9) e) [
  | inl h ↦ let is = eqb-true b 32 h in ne_eqb b 34 (omega arith)
  | inr h ↦ let is = eqb-true b 9 h in ne_eqb b 34 (omega arith)
]

blank_parts : (b : ℕ) (bytes : List ℕ) → is_blank_line (b ∷ bytes) ≡ true → (is_blank b ≡ true) × (is_blank_line bytes ≡ true)
unfolding is_blank_line
blank_parts b bytes e = elim (cases_Bool (is_blank b)) [
  | inl h ↦ (h, sym (ap is_empty (past_blanks_blank b bytes h)) ∙ e)
  | inr h ↦ absurd (false≢true (sym (ap is_empty (past_blanks_other b bytes h)) ∙ e))
]

-- a blank line has no quote
blank_has_none : (bytes : List ℕ) → is_blank_line bytes ≡ true → slice_split (λ b. eqb b 34) bytes ≡ bytes ∷ []
blank_has_none [] e = refl
blank_has_none (b ∷ bytes) e =
    let parts = blank_parts b bytes e in
    ap (λ t. cond t ([] ∷ slice_split (λ b. eqb b 34) bytes) (onto_first b (slice_split (λ b. eqb b 34) bytes))) (no_quote b parts.0)
    ∙ ap (onto_first b) (blank_has_none bytes parts.1)

quoted_by : (digits behind : List ℕ) (pieces : List (List ℕ)) (t : Bool) → is_blank_line behind ≡ t → join_with_byte 34 pieces ≡ behind → (t ≡ true → pieces ≡ behind ∷ [])
    → quoted (digits ∷ pieces) ≡ cond t (Some digits) None
quoted_by digits behind pieces true e joined alone = ap (λ rest. quoted (digits ∷ rest)) (alone refl) ∙ ap (λ t. cond t (Some digits) None) e
quoted_by digits behind [] false e joined alone = refl
quoted_by digits behind (piece ∷ []) false e joined alone = ap (λ (rest : List ℕ). cond (is_blank_line rest) (Some digits) None) joined ∙ ap (λ t. cond t (Some digits) None) e
quoted_by digits behind (piece ∷ next ∷ pieces) false e joined alone = refl

pub quoted_is : (bytes digits behind : List ℕ) → slice_split (λ b. eqb b 34) bytes ≡ digits ∷ slice_split (λ b. eqb b 34) behind
    → quoted (slice_split (λ b. eqb b 34) bytes) ≡ cond (is_blank_line behind) (Some digits) None
quoted_is bytes digits behind split =
    ap quoted split ∙ quoted_by digits behind (slice_split (λ b. eqb b 34) behind) (is_blank_line behind) refl (join_with_byte-slice_split 34 behind) (blank_has_none behind)

pub quoted_none : (bytes digits : List ℕ) → slice_split (λ b. eqb b 34) bytes ≡ digits ∷ [] → quoted (slice_split (λ b. eqb b 34) bytes) ≡ None
quoted_none bytes digits split = ap quoted split

pub ruleset quotes = (quoted_is, quoted_none)

-- ---- values

pub digits_empty : (value : List ℕ) → length value ≡ 0 → goal_digits value ≡ Some value
unfolding goal_digits
digits_empty [] e = refl
digits_empty (b ∷ bytes) e = absurd (omega (arith, e))

pub digits_plain : (value : List ℕ) → 0 < length value → get_or value 0 0 ≢ 34 → goal_digits value ≡ Some value
unfolding goal_digits
digits_plain [] some e = refl
digits_plain (b ∷ bytes) some e = ap (λ t. cond t (quoted (slice_split (λ c. eqb c 34) bytes)) (Some (b ∷ bytes))) (ne_eqb b 34 e)

pub digits_quoted : (value : List ℕ) → 0 < length value → get_or value 0 0 ≡ 34 → goal_digits value ≡ quoted (slice_split (λ c. eqb c 34) (take (length value - 1) (drop 1 value)))
unfolding goal_digits
digits_quoted [] some e = absurd (omega (arith, some))
digits_quoted (b ∷ bytes) some e =
    ap (λ t. cond t (quoted (slice_split (λ c. eqb c 34) bytes)) (Some (b ∷ bytes))) (eq-eqb b 34 e)
    ∙ ap (λ (rest : List ℕ). quoted (slice_split (λ c. eqb c 34) rest)) (sym (take_all (length (b ∷ bytes) - 1) bytes (omega arith)))

pub ruleset values = (digits_empty, digits_plain, digits_quoted)

-- ---- cells

cell_small : (digit : ℕ) → cell_of digit < 16
cell_small digit = by_test (eqb digit 49)
  where
    by_test : (t : Bool) → cond t 1 0 < 16
    by_test true = omega arith
    by_test false = omega arith

pub cells_small : (digits : List ℕ) (k : ℕ) → get_or (map cell_of digits) k 0 < 16
cells_small [] k = omega (arith, get_or_past {X = ℕ} [] k 0 (omega arith))
cells_small (digit ∷ digits) zero = cell_small digit
cells_small (digit ∷ digits) (suc k) = cells_small digits k

pub length-cells : (digits : List ℕ) → length (map cell_of digits) ≡ length digits
length-cells digits = length-map digits cell_of

pub goal_none : (height width : ℕ) (value : List ℕ) → goal_digits value ≡ None → goal_in height width value ≡ Err BadGoal
unfolding goal_in
goal_none height width value e = ap (λ o. ok_or (option_and_then (goal_rows height width) o) BadGoal) e

pub goal_count : (height width : ℕ) (value digits : List ℕ) → goal_digits value ≡ Some digits → length digits ≢ height * width → goal_in height width value ≡ Err BadGoal
unfolding goal_in
goal_count height width value digits e other =
    ap (λ o. ok_or (option_and_then (goal_rows height width) o) BadGoal) e
    ∙ ap (λ t. ok_or (cond (t && list_all is_cell_digit digits) (Some (rows_of height width (map cell_of digits))) None) BadGoal) (ne_eqb _ _ other)

pub goal_bad : (height width : ℕ) (value digits : List ℕ) → goal_digits value ≡ Some digits → list_all is_cell_digit digits ≡ false → goal_in height width value ≡ Err BadGoal
unfolding goal_in
goal_bad height width value digits e bad =
    ap (λ o. ok_or (option_and_then (goal_rows height width) o) BadGoal) e
    ∙ ap (λ t. ok_or (cond (eqb (length digits) (height * width) && t) (Some (rows_of height width (map cell_of digits))) None) BadGoal) bad
    ∙ either (eqb (length digits) (height * width))
  where
    either : (t : Bool) → ok_or (cond (t && false) (Some (rows_of height width (map cell_of digits))) None) BadGoal ≡ Err BadGoal
    either true = refl
    either false = refl

pub goal_is : (height width : ℕ) (value digits : List ℕ) → goal_digits value ≡ Some digits → length digits ≡ height * width → list_all is_cell_digit digits ≡ true
    → goal_in height width value ≡ Ok (rows_of height width (map cell_of digits))
unfolding goal_in
goal_is height width value digits e count good =
    ap (λ o. ok_or (option_and_then (goal_rows height width) o) BadGoal) e
    ∙ ap (λ t. ok_or (cond (t && list_all is_cell_digit digits) (Some (rows_of height width (map cell_of digits))) None) BadGoal) (eq-eqb _ _ count)
    ∙ ap (λ t. ok_or (cond t (Some (rows_of height width (map cell_of digits))) None) BadGoal) good

pub ruleset cells = (cells_small, length-cells, goal_none, goal_count, goal_bad, goal_is)

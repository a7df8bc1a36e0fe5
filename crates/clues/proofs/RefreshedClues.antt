-- The clues of a picture after a change: copied where lines are untouched, and counted where they are touched.
use Rattle.std.proofs.Common.{◌≡◌, ℕ, ◌^◌, ◌⊎◌, inl, inr, Option, Some, None, option_map, List, [], ◌∷◌, ◌++◌, length, length-append, refl, sym, ap, subst, ◌∙◌, arith, IsBitSet, bit_and}
use Rattle.std.proofs.Math.ListN.{get_or-append}
use Rattle.std.proofs.lemmas.Bool.{cases_lt, cases_eq}
use Rattle.std.proofs.lemmas.Bool.Decides.{nat_tests}
use Rattle.std.proofs.lemmas.List.{ext_get_or, get_or_push}
use Rattle.picture.specs.declared.line_id.Axis.{Axis}
use Rattle.picture.specs.declared.line_id.Axis.TheVariants.{Across, Down}
use Rattle.picture.specs.declared.line_id.LineId.{LineId}
use Rattle.picture.specs.LineSet.{mask_along}
use Rattle.picture.specs.Rows.{HasLine, lines_along, Rows}
use Rattle.clues.specs.declared.block.Block.{Block}
use Rattle.clues.specs.declared.places.Places.{Places}
use Rattle.clues.specs.declared.places.Places.TheVariants.{Kept, Inserted, Deleted, Swapped}
use Rattle.clues.specs.ClueBook.{Clues, HasClue, clue_at, clues_along, clues_from, clues_of}
use Rattle.clues.specs.Change.{CanRefresh, Changes, CountsClues, EachAlong, IsNewClue, IsOldClue, IsTouched, KeepsClues, line_at, origin_of, places_along}
use Rattle.picture.specs.CrossingLines.{crossing}
use Rattle.clues.specs.Places.{old_place, IsNewAt, ChangesLength}
use Rattle.clues.proofs.BookLaws.{clue_at-clues_of, has_clue-clues_of, length_along-clues_of}
use Rattle.clues.proofs.EditedPictures.{new_or_old}
use Rattle.clues.proofs.MovedLines.{origin_of-image}

-- a line that was not there before is touched
new_place_touched : (places : Places) (at : ℕ) → old_place places at ≡ None → IsNewAt places at
new_place_touched Kept at e = absurd (cc e)
new_place_touched (Inserted place) at e = grind (arith, nat_tests)
new_place_touched (Deleted place) at e = absurd (cc e)
new_place_touched (Swapped first second) at e = absurd (cc e)

none_touched : (change : Changes) (line : LineId) (from : Option ℕ) → old_place (places_along line.axis change.moves) line.at ≡ from → option_map (line_at line.axis) from ≡ None
    → IsTouched change line
none_touched change line None place e = inl (new_place_touched (places_along line.axis change.moves) line.at place)
none_touched change line (Some from) place e = absurd (cc e)

pub no_origin_touched : (change : Changes) (line : LineId) → origin_of change.moves line ≡ None → IsTouched change line
no_origin_touched change line e = none_touched change line (old_place (places_along line.axis change.moves) line.at) refl e

-- a line is touched or not
cases_bit : (n k : ℕ) → IsBitSet n k ⊎ (IsBitSet n k → ⊥)
cases_bit n k = elim (cases_eq (bit_and n (2 ^ k)) 0) [ inl none ↦ inr (λ some. some none) | inr some ↦ inl some ]

changes_or_not : (places : Places) → ChangesLength places ⊎ (ChangesLength places → ⊥)
changes_or_not Kept = inr (λ h. h)
changes_or_not (Inserted place) = inl tt
changes_or_not (Deleted place) = inl tt
changes_or_not (Swapped first second) = inr (λ h. h)

touched_or_not : (change : Changes) (line : LineId) → IsTouched change line ⊎ (IsTouched change line → ⊥)
touched_or_not change line =
    elim (new_or_old (places_along line.axis change.moves) line.at) [
      | inl n ↦ inl (inl n)
      | inr old ↦
          elim (changes_or_not (places_along (crossing line.axis) change.moves)) [
            | inl c ↦ inl (inr (inl c))
            | inr same ↦
                elim (cases_bit (mask_along line.axis change.marked) line.at) [
                  | inl m ↦ inl (inr (inr m))
                  | inr n ↦ inr (λ t. elim t [ inl a ↦ old a | inr b ↦ elim b [ inl c ↦ same c | inr m ↦ n m ] ])
                ]
          ]
    ]

-- the old line that an untouched line was has a clue, which is copied
pub can_copy : (clues : Clues) (picture : Rows) (change : Changes) (line old : LineId) → CanRefresh clues picture change → HasLine picture line → (IsTouched change line → ⊥)
    → origin_of change.moves line ≡ Some old → HasClue clues old
can_copy clues picture change line old can has untouched e =
    let is = can.untouched line has untouched in
    let same : is.0 ≡ old = cc (origin_of-image change.moves is.0 line is.2, e) in
    rw (← same) is.1

pub is_old_clue : (clues : Clues) (change : Changes) (line old : LineId) (clue : List Block) → origin_of change.moves line ≡ Some old → clue ≡ clue_at clues old → IsOldClue change clues line clue
is_old_clue clues change line old clue e is = λ untouched from image.
    let same : from ≡ old = cc (origin_of-image change.moves from line image, e) in
    rw same is

-- one clue more along an axis
each_more : (axis : Axis) (clues : List (List Block)) (clue : List Block) (at : ℕ) (P : LineId → List Block → Type 0) → length clues ≡ at → EachAlong axis clues P → P (line_at axis at) clue
    → EachAlong axis (clues ++ clue ∷ []) P
each_more axis clues clue at P count each more = λ k h.
    elim (cases_lt k (length clues)) [
      | inl below ↦ let Q : List Block → Type 0 = λ c. P (line_at axis k) c in subst Q (sym (get_or-append clues (clue ∷ []) [] k below)) (each k below)
      | inr above ↦
          let last : at ≡ k = omega (arith, length-append clues (clue ∷ [])) in
          let Q : List Block → Type 0 = λ c. P (line_at axis k) c in
          let R : ℕ → Type 0 = λ n. P (line_at axis n) clue in
          subst Q (sym (get_or_push clues clue [] k (count ∙ last))) (subst R last more)
    ]

pub old_clues_none : (axis : Axis) (change : Changes) (clues : Clues) → EachAlong axis [] (IsOldClue change clues)
old_clues_none axis change clues = λ k h. absurd (omega arith)

pub old_clues_more : (axis : Axis) (change : Changes) (old : Clues) (clues : List (List Block)) (clue : List Block) (at : ℕ) → length clues ≡ at → EachAlong axis clues (IsOldClue change old)
    → IsOldClue change old (line_at axis at) clue → EachAlong axis (clues ++ clue ∷ []) (IsOldClue change old)
old_clues_more axis change old clues clue at count each more = each_more axis clues clue at (IsOldClue change old) count each more

pub new_clues_none : (axis : Axis) (change : Changes) (picture : Rows) → EachAlong axis [] (IsNewClue change picture)
new_clues_none axis change picture = λ k h. absurd (omega arith)

pub new_clues_more : (axis : Axis) (change : Changes) (picture : Rows) (clues : List (List Block)) (clue : List Block) (at : ℕ) → length clues ≡ at → EachAlong axis clues (IsNewClue change picture)
    → IsNewClue change picture (line_at axis at) clue → EachAlong axis (clues ++ clue ∷ []) (IsNewClue change picture)
new_clues_more axis change picture clues clue at count each more = each_more axis clues clue at (IsNewClue change picture) count each more

-- both axes together
of_both : (rows columns : List (List Block)) (P : LineId → List Block → Type 0) → EachAlong Across rows P → EachAlong Down columns P → (axis : Axis)
    → EachAlong axis (clues_along axis (clues_from rows columns)) P
of_both rows columns P across down Across = across
of_both rows columns P across down Down = down

pub keeps_clues : (change : Changes) (old : Clues) (rows columns : List (List Block)) → EachAlong Across rows (IsOldClue change old) → EachAlong Down columns (IsOldClue change old)
    → KeepsClues change old (clues_from rows columns)
keeps_clues change old rows columns across down = λ line has. of_both rows columns (IsOldClue change old) across down line.axis line.at has

pub counts_clues : (change : Changes) (picture : Rows) (rows columns : List (List Block)) → EachAlong Across rows (IsNewClue change picture) → EachAlong Down columns (IsNewClue change picture)
    → CountsClues change picture (clues_from rows columns)
counts_clues change picture rows columns across down = λ line has. of_both rows columns (IsNewClue change picture) across down line.axis line.at has

pub both_sizes : (picture : Rows) (rows columns : List (List Block)) → length rows ≡ lines_along Across picture → length columns ≡ lines_along Down picture → (axis : Axis)
    → length (clues_along axis (clues_from rows columns)) ≡ lines_along axis picture
both_sizes picture rows columns across down Across = across
both_sizes picture rows columns across down Down = down

-- where the copied clues are the picture's, the new book is that of the picture
same_clue : (old new : Clues) (picture : Rows) (change : Changes) (line : LineId) → CanRefresh old picture change → KeepsClues change old (clues_of picture) → KeepsClues change old new
    → CountsClues change picture new → HasLine picture line → HasClue new line → clue_at new line ≡ clue_at (clues_of picture) line
same_clue old new picture change line can stand copied counted has has_clue =
    let of_picture = has_clue-clues_of picture line has in
    elim (touched_or_not change line) [
      | inl touched ↦ counted line has_clue touched ∙ sym (clue_at-clues_of picture line has)
      | inr untouched ↦
          let from = can.untouched line has untouched in
          copied line has_clue untouched from.0 from.2 ∙ sym (stand line of_picture untouched from.0 from.2)
    ]

same_along : (axis : Axis) (old new : Clues) (picture : Rows) (change : Changes) → CanRefresh old picture change → KeepsClues change old (clues_of picture) → KeepsClues change old new
    → CountsClues change picture new → length (clues_along axis new) ≡ lines_along axis picture → clues_along axis new ≡ clues_along axis (clues_of picture)
same_along axis old new picture change can stand copied counted size =
    ext_get_or [] (clues_along axis new) (clues_along axis (clues_of picture)) (size ∙ sym (length_along-clues_of axis picture))
    (λ at h. same_clue old new picture change (line_at axis at) can stand copied counted (rw (← size) h) h)

pub refreshed_book : (old : Clues) (picture : Rows) (change : Changes) (rows columns : List (List Block)) → CanRefresh old picture change → length rows ≡ lines_along Across picture
    → length columns ≡ lines_along Down picture → EachAlong Across rows (IsOldClue change old) → EachAlong Down columns (IsOldClue change old) → EachAlong Across rows (IsNewClue change picture)
    → EachAlong Down columns (IsNewClue change picture) → KeepsClues change old (clues_of picture) → clues_from rows columns ≡ clues_of picture
refreshed_book old picture change rows columns can row_count column_count old_rows old_columns new_rows new_columns stand =
    let copied = keeps_clues change old rows columns old_rows old_columns in
    let counted = counts_clues change picture rows columns new_rows new_columns in
    let across : rows ≡ (clues_of picture).rows = same_along Across old (clues_from rows columns) picture change can stand copied counted row_count in
    let down : columns ≡ (clues_of picture).columns = same_along Down old (clues_from rows columns) picture change can stand copied counted column_count in
    ap (λ r. clues_from r columns) across ∙ ap (clues_from (clues_of picture).rows) down

pub ruleset refreshing = (no_origin_touched, can_copy, is_old_clue, old_clues_none, old_clues_more, new_clues_none, new_clues_more, keeps_clues, counts_clues, both_sizes, refreshed_book)

-- The lines of a section, and the clues that they give.
use Rattle.std.proofs.Common.{◌≡◌, ℕ, zero, suc, ◌+◌, ◌-◌, ◌<◌, ◌≤◌, Bool, true, false, cond, not, eqb, leb, List, [], ◌∷◌, ◌++◌, length, take, drop, Option, Some, None, ◌⊎◌, Result, Ok, Err, refl}
use Rattle.std.proofs.Common.{sym, ap, ◌∙◌, arith, inl, inr, ◌&&◌, ◌||◌, filter}
use Rattle.std.specs.List.{list_any}
use Rattle.std.proofs.lemmas.List.{append_assoc, append-nil, drop_all, length-take-le}
use Rattle.std.proofs.lemmas.Bool.{lt-leb, le-leb, cases_lt, eqb-true, leb-true}
use Rattle.picture.specs.Readers.{◌>>=◌}
use Rattle.clues.specs.declared.block.Block.{Block}
use Rattle.non_text.specs.declared.counting.Count.{Count}
use Rattle.non_text.specs.declared.fault.NonFault.{NonFault}
use Rattle.non_text.specs.declared.fault.NonFault.TheVariants.{BadCount, Memory}
use Rattle.non_text.specs.Lines.{is_blank_line, section_of, at_keyword}
use Rattle.non_text.specs.ClueLine.{clue_in, clues_in}
use Rattle.non_text.specs.Section.{is_full_line, leaves_blanks, kept_lines, section_clues, found_clues, clues_behind}
use Rattle.non_text.specs.SectionCounts.{with_line, count_after, count_of}

-- ---- the lines that give clues

pub kept_more : (leaves : Bool) (line : List ℕ) (lines : List (List ℕ)) → (leaves && is_blank_line line) ≡ false → kept_lines leaves (line ∷ lines) ≡ line ∷ kept_lines leaves lines
kept_more true line lines e = ap (λ t. cond (not t) (line ∷ filter is_full_line lines) (filter is_full_line lines)) e
kept_more false line lines e = refl

pub kept_less : (leaves : Bool) (line : List ℕ) (lines : List (List ℕ)) → (leaves && is_blank_line line) ≡ true → kept_lines leaves (line ∷ lines) ≡ kept_lines leaves lines
kept_less true line lines e = ap (λ t. cond (not t) (line ∷ filter is_full_line lines) (filter is_full_line lines)) e
kept_less false line lines e = cc

pub kept_none : (leaves : Bool) → kept_lines leaves [] ≡ []
kept_none true = refl
kept_none false = refl

pub ruleset keeping = (kept_more, kept_less, kept_none)

-- ---- their clues

abbrev pub behind_clues : List (List Block) → Result (List (List Block)) NonFault → Result (List (List Block)) NonFault
behind_clues front read = read >>= λ clues. Ok (front ++ clues)

-- the clues so far, and then those of the first n lines
unfoldable pub clues_left : ℕ → List (List Block) → ℕ → List (List ℕ) → Result (List (List Block)) NonFault
clues_left cells front n lines = behind_clues front (clues_in cells (take n lines))

pub clues_left_first : (cells n : ℕ) (lines : List (List ℕ)) → clues_left cells [] (n - 0) lines ≡ clues_in cells (take n lines)
unfolding clues_left
clues_left_first cells n lines = let same_count : n - 0 ≡ n = omega arith in ap (λ k. behind_clues [] (clues_in cells (take k lines))) same_count ∙ same (clues_in cells (take n lines))
  where
    same : (read : Result (List (List Block)) NonFault) → behind_clues [] read ≡ read
    same (Ok clues) = refl
    same (Err e) = refl

pub clues_left_none : (cells : ℕ) (front : List (List Block)) (n : ℕ) → clues_left cells front n [] ≡ Ok front
unfolding clues_left clues_in
clues_left_none cells front zero = ap Ok (append-nil front)
clues_left_none cells front (suc n) = ap Ok (append-nil front)

pub clues_left_done : (cells : ℕ) (front : List (List Block)) (n : ℕ) (lines : List (List ℕ)) → n ≡ 0 → clues_left cells front n lines ≡ Ok front
unfolding clues_left clues_in
clues_left_done cells front zero lines e = ap Ok (append-nil front)
clues_left_done cells front (suc n) lines e = absurd (omega (arith, e))

clues_step : (cells : ℕ) (front : List (List Block)) (n : ℕ) (line : List ℕ) (lines : List (List ℕ)) (clue : List Block) → clue_in cells line ≡ Ok clue
    → clues_left cells (front ++ clue ∷ []) n lines ≡ clues_left cells front (suc n) (line ∷ lines)
unfolding clues_left clues_in
clues_step cells front n line lines clue e =
    sym (ap (λ read. behind_clues front (read >>= λ first. clues_in cells (take n lines) >>= λ later. Ok (first ∷ later))) e ∙ joined (clues_in cells (take n lines)))
  where
    joined : (read : Result (List (List Block)) NonFault) → behind_clues front (read >>= λ later. Ok (clue ∷ later)) ≡ behind_clues (front ++ clue ∷ []) read
    joined (Ok later) = ap Ok (sym (append_assoc front (clue ∷ []) later))
    joined (Err f) = refl

pub clues_left_more : (cells : ℕ) (front : List (List Block)) (n i : ℕ) (line : List ℕ) (lines rest : List (List ℕ)) (clue : List Block) → i < n → rest ≡ line ∷ lines → clue_in cells line ≡ Ok clue
    → clues_left cells (front ++ clue ∷ []) (n - (i + 1)) lines ≡ clues_left cells front (n - i) rest
clues_left_more cells front n i line lines rest clue lt is e =
    let one_less : suc (n - (i + 1)) ≡ n - i = omega arith in
    clues_step cells front (n - (i + 1)) line lines clue e ∙ ap (λ k. clues_left cells front k (line ∷ lines)) one_less ∙ ap (clues_left cells front (n - i)) (sym is)

pub clues_left_bad : (cells : ℕ) (front : List (List Block)) (n i : ℕ) (line : List ℕ) (lines rest : List (List ℕ)) (fault : NonFault) → i < n → rest ≡ line ∷ lines → clue_in cells line ≡ Err fault
    → clues_left cells front (n - i) rest ≡ Err fault
unfolding clues_left clues_in
clues_left_bad cells front n i line lines rest fault lt is e =
    let one_less : n - i ≡ suc (n - (i + 1)) = omega arith in
    ap (clues_left cells front (n - i)) is ∙ ap (λ k. clues_left cells front k (line ∷ lines)) one_less
    ∙ ap (λ read. behind_clues front (read >>= λ first. clues_in cells (take (n - (i + 1)) lines) >>= λ later. Ok (first ∷ later))) e

-- a clue that is refused
pub clues_left_stop : (cells : ℕ) (front : List (List Block)) (n i : ℕ) (line : List ℕ) (lines rest : List (List ℕ)) (fault : NonFault) (total : Result (List (List Block)) NonFault) → i < n
    → rest ≡ line ∷ lines → (fault ≡ Memory) ⊎ (clue_in cells line ≡ Err fault)
    → clues_left cells front (n - i) rest ≡ total → (fault ≡ Memory) ⊎ (total ≡ Err fault)
clues_left_stop cells front n i line lines rest fault total lt is refused so_far =
    elim refused [ inl none ↦ inl none | inr e ↦ inr (sym so_far ∙ clues_left_bad cells front n i line lines rest fault lt is e) ]

pub ruleset reading = (clues_left_first, clues_left_none, clues_left_done, clues_left_more, clues_left_bad)

-- ---- how many lines there are

pub count_none : (n : ℕ) (count : Count) → count_after n count [] ≡ count
unfolding count_after
count_none n count = refl

pub count_more : (n : ℕ) (count : Count) (line : List ℕ) (lines : List (List ℕ)) → count_after n count (line ∷ lines) ≡ count_after n (with_line n count line) lines
unfolding count_after
count_more n count line lines = refl

count_lines : (n : ℕ) (count : Count) (lines : List (List ℕ)) → (count_after n count lines).lines ≡ count.lines + length lines
unfolding count_after
count_lines n count [] = omega arith
count_lines n count (line ∷ lines) = let more = count_lines n (with_line n count line) lines in omega (arith, more)

count_full : (n : ℕ) (count : Count) (lines : List (List ℕ)) → (count_after n count lines).full ≡ count.full + length (filter is_full_line lines)
unfolding count_after
count_full n count [] = omega arith
count_full n count (line ∷ lines) = count_full n (with_line n count line) lines ∙ by_kind (is_full_line line)
  where
    by_kind : (full : Bool)
        → cond full (count.full + 1) count.full + length (filter is_full_line lines) ≡ count.full + length (cond full (line ∷ filter is_full_line lines) (filter is_full_line lines))
    by_kind true = omega arith
    by_kind false = refl

or_nothing : (t : Bool) → t ≡ (t || false)
or_nothing true = refl
or_nothing false = refl

late_full : (late full rest : Bool) → ((late || (full && true)) || rest) ≡ (late || (full || rest))
late_full true full rest = refl
late_full false true rest = refl
late_full false false rest = refl

late_early : (late full rest : Bool) → ((late || (full && false)) || rest) ≡ (late || rest)
late_early true full rest = refl
late_early false true rest = refl
late_early false false rest = refl

count_late : (n : ℕ) (count : Count) (lines : List (List ℕ)) → (count_after n count lines).late ≡ (count.late || list_any is_full_line (drop (n - count.lines) lines))
unfolding count_after
count_late n count [] = or_nothing count.late ∙ ap (λ (rest : List (List ℕ)). count.late || list_any is_full_line rest) (sym (drop_all (n - count.lines) [] (omega arith)))
count_late n count (line ∷ lines) =
    count_late n (with_line n count line) lines
    ∙ (elim (cases_lt count.lines n) [
      | inl lt ↦
          let one_less : n - count.lines ≡ suc (n - (count.lines + 1)) = omega arith in
          ap (λ t. (count.late || (is_full_line line && t)) || list_any is_full_line (drop (n - (count.lines + 1)) lines)) (lt-leb n count.lines lt)
          ∙ late_early count.late (is_full_line line) (list_any is_full_line (drop (n - (count.lines + 1)) lines))
          ∙ ap (λ k. count.late || list_any is_full_line (drop k (line ∷ lines))) (sym one_less)
      | inr le ↦
          let none : n - count.lines ≡ 0 = omega arith in
          let none_left : n - (count.lines + 1) ≡ 0 = omega arith in
          ap (λ t. (count.late || (is_full_line line && t)) || list_any is_full_line (drop (n - (count.lines + 1)) lines)) (le-leb n count.lines le)
          ∙ ap (λ k. (count.late || (is_full_line line && true)) || list_any is_full_line (drop k lines)) none_left
          ∙ late_full count.late (is_full_line line) (list_any is_full_line lines)
          ∙ ap (λ k. count.late || list_any is_full_line (drop k (line ∷ lines))) (sym none)
    ])

abbrev judged : ℕ → ℕ → ℕ → Bool → Result Bool NonFault
judged n lines full late = cond (eqb full n) (Ok true) (cond (leb n lines && not late) (Ok false) (Err BadCount))

pub count_is : (n : ℕ) (lines : List (List ℕ))
    → leaves_blanks n lines ≡ cond (eqb (count_of n lines).full n) (Ok true) (cond (leb n (count_of n lines).lines && not (count_of n lines).late) (Ok false) (Err BadCount))
unfolding leaves_blanks
count_is n lines =
    let none : Count = record { lines = 0; full = 0; late = false } in
    let all = count_lines n none lines in
    let full = count_full n none lines in
    let all_is : length lines ≡ (count_of n lines).lines = omega (arith, all) in
    let full_is : length (filter is_full_line lines) ≡ (count_of n lines).full = omega (arith, full) in
    let same_count : n ≡ n - 0 = omega arith in
    ap (λ k. judged n (length lines) (length (filter is_full_line lines)) (list_any is_full_line (drop k lines))) same_count
    ∙ ap (λ t. judged n (length lines) (length (filter is_full_line lines)) t) (sym (count_late n none lines))
    ∙ ap (λ k. judged n k (length (filter is_full_line lines)) (count_of n lines).late) all_is
    ∙ ap (λ k. judged n (count_of n lines).lines k (count_of n lines).late) full_is

pub ruleset counting = (count_none, count_more, count_is)

-- ---- a section has its clues

pub bind_ok : {A B E : Type 0} (r : Result A E) (next : A → Result B E) (y : B) → (r >>= next) ≡ Ok y → (x : A) × (r ≡ Ok x) × (next x ≡ Ok y)
bind_ok (Ok x) next y e = (x, refl, e)
bind_ok (Err f) next y e = cc

clues_in_length : (cells : ℕ) (lines : List (List ℕ)) (clues : List (List Block)) → clues_in cells lines ≡ Ok clues → length clues ≡ length lines
unfolding clues_in
clues_in_length cells [] clues e = let same : [] ≡ clues = cc in ap length (sym same)
clues_in_length cells (line ∷ lines) clues e =
    let first = bind_ok (clue_in cells line) (λ clue. clues_in cells lines >>= λ later. Ok (clue ∷ later)) clues e in
    let later = bind_ok (clues_in cells lines) (λ later. Ok (first.0 ∷ later)) clues first.2 in
    let same : first.0 ∷ later.0 ≡ clues = let last = later.2 in cc in
    ap length (sym same) ∙ ap suc (clues_in_length cells lines later.0 later.1)

enough : (n full all : ℕ) (late : Bool) (b : Bool) (kept : ℕ) → judged n all full late ≡ Ok b → cond b full all ≡ kept → n ≤ kept
enough n full all late b kept e is = by_tests (eqb full n) (leb n all) refl refl
  where
    not_late : (l : Bool) → cond (not l) (Ok false) (Err BadCount) ≡ Ok b → b ≡ false
    not_late true h = cc
    not_late false h = cc

    by_tests : (s t : Bool) → eqb full n ≡ s → leb n all ≡ t → n ≤ kept
    by_tests true t es et =
        let chosen : Ok true ≡ Ok b = sym (ap (λ u. cond u (Ok true) (cond (leb n all && not late) (Ok false) (Err BadCount))) es) ∙ e in
        let yes : b ≡ true = cc in
        omega (arith, eqb-true full n es, sym (ap (λ u. cond u full all) yes) ∙ is)
    by_tests false true es et =
        let chosen : cond (not late) (Ok false) (Err BadCount) ≡ Ok b =
        sym (ap (λ u. cond u (Ok true) (cond (leb n all && not late) (Ok false) (Err BadCount))) es ∙ ap (λ u. cond (u && not late) (Ok false) (Err BadCount)) et) ∙ e in
        let no : b ≡ false = not_late late chosen in
        omega (arith, leb-true n all et, sym (ap (λ u. cond u full all) no) ∙ is)
    by_tests false false es et =
        let chosen : Err BadCount ≡ Ok b = sym (ap (λ u. cond u (Ok true) (cond (leb n all && not late) (Ok false) (Err BadCount))) es ∙ ap (λ u. cond (u && not late) (Ok false) (Err BadCount)) et)
        ∙ e in
        cc

section_count : (n cells : ℕ) (lines : List (List ℕ)) (clues : List (List Block)) → section_clues n cells lines ≡ Ok clues → length clues ≡ n
unfolding leaves_blanks
section_count n cells lines clues e =
    let leaves = bind_ok _ _ _ e in
    let room = kept_enough leaves.0 leaves.1 in
    clues_in_length cells (take n (kept_lines leaves.0 lines)) clues leaves.2 ∙ length-take-le n (kept_lines leaves.0 lines) room
  where
    kept_is : (b : Bool) → cond b (length (filter is_full_line lines)) (length lines) ≡ length (kept_lines b lines)
    kept_is true = refl
    kept_is false = refl

    kept_enough : (b : Bool) → leaves_blanks n lines ≡ Ok b → n ≤ length (kept_lines b lines)
    kept_enough b h = enough n (length (filter is_full_line lines)) (length lines) (list_any is_full_line (drop n lines)) b _ h (kept_is b)

found_count : (n cells : ℕ) (found : Option (List ℕ × List (List ℕ))) (clues : List (List Block)) → found_clues n cells found ≡ Ok clues → length clues ≡ n
found_count n cells None clues e = cc
found_count n cells (Some found) clues e = section_count n cells (section_of found.1) clues e

pub clues_count : (word : List ℕ) (n cells : ℕ) (lines : List (List ℕ)) (clues : List (List Block)) → clues_behind word n cells lines ≡ Ok clues → length clues ≡ n
unfolding clues_behind
clues_count word n cells lines clues e = found_count n cells (at_keyword word lines) clues e

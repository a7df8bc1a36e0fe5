-- The clues of the lines along an axis, one after another.
use Rattle.std.proofs.Common.{◌≡◌, ℕ, ◌+◌, ◌<◌, List, [], ◌∷◌, ◌++◌, length, get_or, refl, ◌≢◌, take, ap, sym, ◌∙◌, zero-add, arith}
use Rattle.std.proofs.lemmas.List.{take_all, take_more}
use Rattle.std.proofs.lemmas.List.FromFn.{map-range_with_len_more}
use Rattle.picture.specs.declared.line_id.Axis.{Axis}
use Rattle.picture.specs.Rows.{line_along, lines_along, Rows}
use Rattle.clues.specs.declared.block.Block.{Block}
use Rattle.clues.specs.Clue.{clue_of}
use Rattle.clues.specs.ClueBook.{clues_along, clues_of}
use Rattle.clues.proofs.BookLaws.{clues_along-clues_of, first_clues, length-first_clues, get_or-first_clues}

pub first_clues-none : (axis : Axis) (picture : Rows) → first_clues axis picture 0 ≡ []
unfolding first_clues
first_clues-none axis picture = refl

pub first_clues-more : (axis : Axis) (picture : Rows) (n : ℕ) → first_clues axis picture (n + 1) ≡ first_clues axis picture n ++ clue_of (line_along axis n picture) ∷ []
unfolding first_clues
first_clues-more axis picture n = map-range_with_len_more (λ at. clue_of (line_along axis at picture)) 0 n n (zero-add n)

-- a list of clues that begins with those of the lines so far, and with that of the next line after them
pub first_clues-take : (axis : Axis) (picture : Rows) (clues : List (List Block)) (at : ℕ) (clue : List Block) → at < length clues → clue ≡ get_or clues at clue
    → clue_of (line_along axis at picture) ≡ clue → first_clues axis picture at ≡ take at clues → first_clues axis picture (at + 1) ≡ take (at + 1) clues
first_clues-take axis picture clues at clue within read same before =
    first_clues-more axis picture at
    ∙ (ap (λ c. first_clues axis picture at ++ c ∷ []) (same ∙ read)
    ∙ (ap (λ cs. cs ++ get_or clues at clue ∷ []) before ∙ sym (take_more clues at clue within)))

-- a list of clues that has those of all lines, and no more
pub all_first_clues : (axis : Axis) (picture : Rows) (clues : List (List Block)) (n : ℕ) → n ≡ lines_along axis picture → length clues ≡ n → first_clues axis picture n ≡ take n clues
    → clues_along axis (clues_of picture) ≡ clues
all_first_clues axis picture clues n all long is =
    clues_along-clues_of axis picture ∙ (ap (first_clues axis picture) (sym all) ∙ (is ∙ take_all n clues (omega (arith, long))))

-- a clue that is not that of its line
pub first_clues-differ : (axis : Axis) (picture : Rows) (clues : List (List Block)) (n at : ℕ) (clue : List Block) → at < n → clue ≡ get_or clues at clue → clue_of (line_along axis at picture) ≢ clue
    → first_clues axis picture n ≢ clues
first_clues-differ axis picture clues n at clue within read differs e =
    differs (sym (get_or-first_clues axis picture n at clue within) ∙ (ap (λ cs. get_or cs at clue) e ∙ sym read))

pub ruleset counting = (clues_along-clues_of, first_clues-none, first_clues-more, length-first_clues)

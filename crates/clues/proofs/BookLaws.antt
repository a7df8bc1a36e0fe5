-- Laws of the clues of a picture: one for each line, that of its cells.
use Rattle.std.proofs.Common.{◌≡◌, ℕ, ◌<◌, List, [], length, get_or, map, ap, ◌∙◌, zero-add}
use Rattle.std.specs.List.{range_with_len}
use Rattle.std.proofs.lemmas.List.{get_or-map, length-map}
use Rattle.std.proofs.lemmas.List.FromFn.{fill_by_all, length-map-range_with_len, get_or-map-range_with_len}
use Rattle.std.proofs.lemmas.Simd.{map-map}
use Rattle.picture.specs.declared.line_id.Axis.{Axis}
use Rattle.picture.specs.declared.line_id.Axis.TheVariants.{Across, Down}
use Rattle.picture.specs.declared.line_id.LineId.{LineId}
use Rattle.picture.specs.Rows.{line_along, line_of, lines_along, HasLine, Rows}
use Rattle.clues.specs.declared.block.Block.{Block}
use Rattle.clues.specs.Clue.{clue_of}
use Rattle.clues.specs.ClueBook.{HasClue, clues_along, clue_at, clues_of}

-- the clues of the first n lines along an axis
unfoldable pub first_clues : Axis → Rows → ℕ → List (List Block)
first_clues axis picture n = map (λ at. clue_of (line_along axis at picture)) (range_with_len 0 n)

pub length-first_clues : (axis : Axis) (picture : Rows) (n : ℕ) → length (first_clues axis picture n) ≡ n
unfolding first_clues
length-first_clues axis picture n = length-map-range_with_len (λ at. clue_of (line_along axis at picture)) 0 n

pub get_or-first_clues : (axis : Axis) (picture : Rows) (n at : ℕ) (d : List Block) → at < n → get_or (first_clues axis picture n) at d ≡ clue_of (line_along axis at picture)
unfolding first_clues
get_or-first_clues axis picture n at d h = get_or-map-range_with_len (λ k. clue_of (line_along axis k picture)) 0 n at at d h (zero-add at)

-- the clues of a picture, along one axis
pub clues_along-clues_of : (axis : Axis) (picture : Rows) → clues_along axis (clues_of picture) ≡ first_clues axis picture (lines_along axis picture)
unfolding first_clues
clues_along-clues_of Across picture =
    fill_by_all (λ at. clue_of (line_along Across at picture)) (map clue_of picture) (length picture) [] (length-map picture clue_of) (λ k lt. get_or-map clue_of picture k [] [] lt)
clues_along-clues_of Down picture = map-map clue_of (λ at. line_along Down at picture) (range_with_len 0 (lines_along Down picture))

pub length_along-clues_of : (axis : Axis) (picture : Rows) → length (clues_along axis (clues_of picture)) ≡ lines_along axis picture
length_along-clues_of axis picture = ap length (clues_along-clues_of axis picture) ∙ length-first_clues axis picture (lines_along axis picture)

-- the clue of a line in the clues of a picture
pub clue_at-clues_of : (picture : Rows) (line : LineId) → HasLine picture line → clue_at (clues_of picture) line ≡ clue_of (line_of picture line)
clue_at-clues_of picture line has = rw clues_along-clues_of (get_or-first_clues line.axis picture (lines_along line.axis picture) line.at [] has)

-- a line of a picture has a clue among the picture's clues
pub has_clue-clues_of : (picture : Rows) (line : LineId) → HasLine picture line → HasClue (clues_of picture) line
has_clue-clues_of picture line has = rw (clues_along-clues_of, length-first_clues) has

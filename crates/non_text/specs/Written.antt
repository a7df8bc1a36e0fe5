-- The text that is written for a picture.
use Rattle.std.specs.Prelude.{ℕ, ◌++◌, List, [], ◌∷◌, length, map, codes, decimal, ◌==◌, if◌then◌else◌}
use Rattle.std.specs.List.{flat_map, join_with_byte}
use Rattle.picture.specs.Rows.{width_of, Rows}
use Rattle.clues.specs.declared.block.Block.{Block}
use Rattle.clues.specs.ClueBook.{clues_of}

-- the numbers of a clue, or 0 for the empty one
abbrev pub clue_text : List Block → List ℕ
clue_text [] = 48 ∷ []
clue_text (b ∷ blocks) = join_with_byte 44 (map (λ (b : Block). decimal b.len) (b ∷ blocks))

abbrev pub digit_of : ℕ → ℕ
digit_of cell = if cell == 0 then 48 else 49

-- the digits of all cells, between quotes
abbrev pub goal_text : Rows → List ℕ
goal_text rows = codes "goal " ++ 34 ∷ (flat_map (map digit_of) rows ++ 34 ∷ [])

-- the lines that are written
abbrev pub written_lines : Rows → List (List ℕ)
written_lines rows =
    let clues = clues_of rows in
    (codes "width " ++ decimal (width_of rows))
    ∷ (codes "height " ++ decimal (length rows))
    ∷ codes "rows"
    ∷ (map clue_text clues.rows
    ++ codes "columns" ∷ (map clue_text clues.columns
    ++ goal_text rows ∷ []))

-- each line with the line feed that ends it
unfoldable pub non_text_of : Rows → List ℕ
non_text_of rows = flat_map (λ line. line ++ 10 ∷ []) (written_lines rows)

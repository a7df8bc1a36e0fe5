-- A reason as text.
use Rattle.std.specs.Prelude.{ℕ, ◌+◌, List, [], ◌∷◌, ◌++◌, codes, decimal, filter, map, not, ◌==◌}
use Rattle.std.specs.Int.{bit_at}
use Rattle.std.specs.List.{flat_map, range_with_len}
use Rattle.picture.specs.declared.line_id.LineId.{LineId}
use Rattle.justify.specs.declared.premise.Premise.{Premise}
use Rattle.report_text.specs.ClueText.{letter_of}
use Rattle.report_text.specs.Shown.{letter}

-- the letters of the colours that are not excluded, in ascending order
unfoldable pub letters_left : ℕ → List ℕ
letters_left excluded = map letter (filter (λ k. not (bit_at excluded k == 1)) (range_with_len 0 16))

-- a cell by its place along the line, from 1, and the letters of the colours that the premise leaves there
abbrev pub premise_text : Premise → List ℕ
premise_text p = 32 ∷ (decimal (p.at + 1) ++ 61 ∷ letters_left p.colours)

-- the premises, where there are some
abbrev pub premises_text : List Premise → List ℕ
premises_text [] = []
premises_text (p ∷ premises) = codes " given" ++ flat_map premise_text (p ∷ premises)

-- the line that forces the exclusion, and from what
abbrev pub reason_text : LineId → List Premise → List ℕ
reason_text line premises =
    codes "by " ++ (letter_of line.axis ∷ 32 ∷ (decimal (line.at + 1) ++ (premises_text premises ++ 10 ∷ [])))

-- The goal of a puzzle: a string of digits, row by row.
use Rattle.std.specs.Prelude.{ℕ, ◌*◌, Bool, ◌&&◌, ◌||◌, List, [], ◌∷◌, length, map, Option, None, Some, Result, ◌==◌}
use Rattle.std.specs.Prelude.{if◌then◌else◌}
use Rattle.std.specs.List.{slice_split, list_all}
use Rattle.std.specs.Option.{ok_or, option_and_then}
use Rattle.picture.specs.Rows.{rows_of}
use Rattle.non_text.specs.declared.fault.NonFault.{NonFault}
use Rattle.non_text.specs.declared.fault.NonFault.TheVariants.{BadGoal}
use Rattle.non_text.specs.Lines.{is_blank_line}

-- of the pieces between quotes after the first quote: the first one, where nothing but blanks follows the second quote
abbrev pub quoted : List (List ℕ) → Option (List ℕ)
quoted (digits ∷ rest ∷ []) = if is_blank_line rest then Some digits else None
quoted pieces = None

-- the digits of a value: those between two quotes, or the whole value where it does not begin with a quote
unfoldable pub goal_digits : List ℕ → Option (List ℕ)
goal_digits [] = Some []
goal_digits (b ∷ bytes) = if b == 34 then quoted (slice_split (λ c. c == 34) bytes) else Some (b ∷ bytes)

-- `0` or `1`
abbrev pub is_cell_digit : ℕ → Bool
is_cell_digit digit = (digit == 48) || (digit == 49)

-- the colour that a digit gives
abbrev pub cell_of : ℕ → ℕ
cell_of digit = if digit == 49 then 1 else 0

-- the rows that digits give, where they are one `0` or `1` for each cell
abbrev pub goal_rows : ℕ → ℕ → List ℕ → Option (List (List ℕ))
goal_rows height width digits =
    if (length digits == height * width) && list_all is_cell_digit digits
    then Some (rows_of height width (map cell_of digits)) else None

-- the picture of a goal line's value
unfoldable pub goal_in : ℕ → ℕ → List ℕ → Result (List (List ℕ)) NonFault
goal_in height width value = ok_or (option_and_then (goal_rows height width) (goal_digits value)) BadGoal

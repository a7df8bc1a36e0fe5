-- The cells that the lines of a file of givens name, or the first error.
use Rattle.std.specs.Prelude.{◌≡◌, ℕ, ◌+◌, ◌<◌, ◌↔◌, ◌&&◌, Bool, List, [], ◌∷◌, ◌++◌, Option, None, Some, Result, Ok}
use Rattle.std.specs.Prelude.{Err}
use Rattle.std.specs.Prelude.{◌==◌, nat_le, nat_lt, if◌then◌else◌}
use Rattle.std.specs.List.{Contains, list_any}
use Rattle.std.specs.Str.Lines.{strip_carriage_return}
use Rattle.picture.specs.CellSet.{HasCell}
use Rattle.picture.specs.Readers.{◌>>=◌}
use Rattle.cert_text.specs.declared.cert_line.CellNumber.{CellNumber}
use Rattle.cert_text.specs.Text.{cell_number, given_line, lines_of}
use Rattle.text_check.specs.declared.givens_fault.GivensFault.{GivensFault}
use Rattle.text_check.specs.declared.givens_fault.GivensFault.TheVariants.{BadLine, Repeated, Place}

abbrev pub is_cell : CellNumber → CellNumber → Bool
is_cell cell other = cell.row == other.row && cell.col == other.col

-- the picture has the cell
abbrev pub is_inside : ℕ → ℕ → CellNumber → Bool
is_inside height width cell =
    (nat_lt 0 cell.row && nat_le cell.row height) && (nat_lt 0 cell.col && nat_le cell.col width)

-- the cell that a line gives, without a carriage return at its end
abbrev pub given_on : List ℕ → Option CellNumber
given_on line = given_line (strip_carriage_return line)

-- the cell of line n, by what that line gives, behind lines that gave some cells
abbrev pub cell_of : ℕ → ℕ → List CellNumber → ℕ → Option CellNumber → Result CellNumber GivensFault
cell_of height width cells n None = Err (BadLine n)
cell_of height width cells n (Some cell) =
    if is_inside height width cell then (if list_any (is_cell cell) cells then Err (Repeated n) else Ok cell)
    else Err (Place n)

-- the cells of lines of which the first has number n, behind lines that gave some cells; or the first error
unfoldable pub cells_below : ℕ → ℕ → List CellNumber → ℕ → List (List ℕ) → Result (List CellNumber) GivensFault
cells_below height width cells n [] = Ok cells
cells_below height width cells n (line ∷ lines) =
    cell_of height width cells n (given_on line) >>= λ cell.
    cells_below height width (cells ++ cell ∷ []) (n + 1) lines

-- the cells of a text in its order, or the first error
abbrev pub cells_of : ℕ → ℕ → List ℕ → Result (List CellNumber) GivensFault
cells_of height width text = cells_below height width [] 1 (lines_of text)

-- ---- sets of cells

-- the set has exactly the cells with these numbers
abbrev pub IsSetOf : List ℕ → List CellNumber → Type 0
IsSetOf set cells = (row col : ℕ) → HasCell set row col ↔ Contains cells (cell_number (row + 1) (col + 1))

-- the cells of the set lie in a picture of this height and width
abbrev pub AreInside : ℕ → ℕ → List ℕ → Type 0
AreInside height width set = (row col : ℕ) → HasCell set row col → (row < height) × (col < width)

-- a set of what was read, or the same error
abbrev pub IsRead : Result (List CellNumber) GivensFault → Result (List ℕ) GivensFault → Type 0
IsRead read (Ok set) = (cells : List CellNumber) × ((read ≡ Ok cells) × IsSetOf set cells)
IsRead read (Err e) = read ≡ Err e

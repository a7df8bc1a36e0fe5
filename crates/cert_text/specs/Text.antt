-- The lines of a text, their words, and what these name.
use Rattle.std.specs.Prelude.{◌≡◌, ℕ, ◌+◌, ◌<◌, Bool, false, List, [], ◌∷◌, length, codes, Option, None, Some}
use Rattle.std.specs.Prelude.{Result, Ok, Err, option_and_then, option_map, ◌==◌, nat_eq, nat_le, if◌then◌else◌}
use Rattle.std.proofs.Common.{Vec, Global}
use Rattle.std.specs.Borrow.{Bor}
use Rattle.std.specs.Cmp.Lexicographic.{pointwise}
use Rattle.std.specs.List.{slice_split}
use Rattle.picture.specs.Numbers.{has_byte, short_number}
use Rattle.picture.specs.Readers.{◌>>=◌}
use Rattle.picture.specs.declared.line_id.Axis.{Axis}
use Rattle.picture.specs.declared.line_id.Axis.TheVariants.{Across, Down}
use Rattle.cert_text.specs.declared.fault.CertFault.{CertFault}
use Rattle.cert_text.specs.declared.fault.CertFault.TheVariants.{BadLine}
use Rattle.cert_text.specs.declared.cert_line.LineNumber.{LineNumber}
use Rattle.cert_text.specs.declared.cert_line.CellNumber.{CellNumber}
use Rattle.cert_text.specs.declared.cert_line.Literal.{Literal}
use Rattle.cert_text.specs.Cert.{rank}
use Rattle.cert_text.specs.Letters.{colours_named}

-- ---- lines and words

-- the pieces between line feeds are the lines, but the last one only where it has a byte
abbrev pub lines_of_pieces : List (List ℕ) → List (List ℕ)
lines_of_pieces [] = []
lines_of_pieces (piece ∷ []) = if has_byte piece then piece ∷ [] else []
lines_of_pieces (piece ∷ next ∷ pieces) = piece ∷ lines_of_pieces (next ∷ pieces)

unfoldable pub lines_of : List ℕ → List (List ℕ)
lines_of text = lines_of_pieces (slice_split (λ b. b == 10) text)

-- the words between single spaces
abbrev pub words_of : List ℕ → List (List ℕ)
words_of line = slice_split (λ b. b == 32) line

-- the bytes are exactly this word
abbrev pub is_word : List ℕ → List ℕ → Bool
is_word bytes word = pointwise nat_eq bytes word

-- exactly three words
abbrev pub three_of : List (List ℕ) → Option (List ℕ × List ℕ × List ℕ)
three_of (word ∷ first ∷ second ∷ []) = Some (word, first, second)
three_of _ = None

-- ---- numbers without leading zeros

abbrev pub has_leading_zero : List ℕ → Bool
has_leading_zero (b ∷ c ∷ bytes) = b == 48
has_leading_zero _ = false

-- the number of a line or a cell: one to three digits
abbrev pub number_of : List ℕ → Option ℕ
number_of bytes = if has_leading_zero bytes then None else short_number 3 bytes

-- a number that fits sixteen bits
abbrev pub if_small : Option ℕ → Option ℕ
if_small None = None
if_small (Some n) = if nat_le n 65535 then Some n else None

-- the number of a lemma: one to five digits
abbrev pub lemma_named : List ℕ → Option ℕ
lemma_named word = if has_leading_zero word then None else if_small (short_number 5 word)

-- ---- places

abbrev pub axis_of : List ℕ → Option Axis
axis_of word = if is_word word (codes "r") then Some Across else if is_word word (codes "c") then Some Down else None

abbrev pub line_number : Axis → ℕ → LineNumber
line_number axis number = record { axis = axis; number = number }

abbrev pub cell_number : ℕ → ℕ → CellNumber
cell_number row col = record { row = row; col = col }

-- the line that two words name, as `r 3`
abbrev pub line_named : List ℕ → List ℕ → Option LineNumber
line_named first second = option_and_then (λ axis. option_map (line_number axis) (number_of second)) (axis_of first)

-- a row or a column in one word, as `r12`
abbrev pub joined_named : List ℕ → Option LineNumber
joined_named [] = None
joined_named (axis ∷ number) = line_named (axis ∷ []) number

-- the cell that two words name, as `3 4`
abbrev pub cell_named : List ℕ → List ℕ → Option CellNumber
cell_named first second = option_and_then (λ row. option_map (cell_number row) (number_of second)) (number_of first)

abbrev pub literal : CellNumber → ℕ → Literal
literal cell colours = record { cell = cell; colours = colours }

-- the cell and the colours that three words name, as `3 4 .b`
abbrev pub literal_named : List ℕ → List ℕ → List ℕ → Option Literal
literal_named row col letters =
    option_and_then (λ cell. option_map (literal cell) (colours_named letters)) (cell_named row col)

-- ---- givens

-- a line that gives a cell
unfoldable pub given_line : List ℕ → Option CellNumber
given_line line =
    option_and_then (λ t. if is_word t.0 (codes "given") then cell_named t.1 t.2 else None) (three_of (words_of line))

-- the givens from a line on, by what that line gives: nothing, or a cell that has to follow those before it
abbrev pub take_given : ℕ → ℕ → List (List ℕ) → Option CellNumber
    → (ℕ → Result (List CellNumber × List (List ℕ)) CertFault) → Result (List CellNumber × List (List ℕ)) CertFault
take_given n least lines None rest = Ok ([], lines)
take_given n least lines (Some cell) rest =
    if nat_le least (rank cell) then (rest (rank cell + 1) >>= λ read. Ok (cell ∷ read.0, read.1))
    else Err (BadLine n)

-- The givens at the beginning of lines that are numbered from n,
-- in the order of rows and from a rank on; and the lines below them.
unfoldable pub given_lines : ℕ → ℕ → List (List ℕ) → Result (List CellNumber × List (List ℕ)) CertFault
given_lines n least [] = Ok ([], [])
given_lines n least (line ∷ lines) =
    take_given n least (line ∷ lines) (given_line line) (λ from. given_lines (n + 1) from lines)

-- ---- the answers of functions that cut a text

-- the first line of a text, and a shorter text with the others
abbrev pub IsFirstLine : List ℕ → Option (Bor (List ℕ) × Bor (List ℕ)) → Type 0
IsFirstLine text None = lines_of text ≡ []
IsFirstLine text (Some x) = (lines_of text ≡ x.0.now ∷ lines_of x.1.now) × (length x.1.now < length text)

-- the first word of a line, and the others; or the line is a single word
abbrev pub IsCut : List ℕ → Option (Bor (List ℕ) × Bor (List ℕ)) → Type 0
IsCut line None = words_of line ≡ line ∷ []
IsCut line (Some x) = words_of line ≡ x.0.now ∷ words_of x.1.now

abbrev pub three_seen : Bor (List ℕ) × Bor (List ℕ) × Bor (List ℕ) → List ℕ × List ℕ × List ℕ
three_seen t = (t.0.now, t.1.now, t.2.now)

-- what reading givens answers: the cells, and the lines below them
abbrev pub givens_seen : Vec CellNumber Global × Bor (List ℕ) → List CellNumber × List (List ℕ)
givens_seen read = (read.0.items, lines_of read.1.now)

-- The document that a P3 text says, or the first error in the text.
use Rattle.std.specs.Prelude.{ℕ, zero, suc, ◌*◌, ◌||◌, nat_lt, ◌==◌, if◌then◌else◌, List, [], ◌∷◌, length, Option, Some}
use Rattle.std.specs.Prelude.{None, Result, Ok, Err}
use Rattle.picture.specs.Readers.{◌>>=◌}
use Rattle.picture.specs.Rows.{rows_of}
use Rattle.picture.specs.declared.rgb.Rgb.{Rgb}
use Rattle.picture.specs.declared.picture.TheConstants.{MAX_COLOURS}
use Rattle.picture.specs.CellSet.{no_cells}
use Rattle.picture.specs.Document.{Content}
use Rattle.picture.specs.Palette.{Colours, fits, place_of, with_colour, only_background}
use Rattle.ppm_text.specs.declared.fault.PpmFault.{PpmFault}
use Rattle.ppm_text.specs.declared.fault.PpmFault.TheVariants.{BadMaxval, SampleOver, TooManyColours, TrailingToken}
use Rattle.ppm_text.specs.declared.fields.Triple.{Triple}
use Rattle.ppm_text.specs.Tokens.{Token, Unread, magic_of}
use Rattle.ppm_text.specs.Numerals.{numeral_at}
use Rattle.ppm_text.specs.Samples.{side_at, samples_at}

-- the background that was passed, or else white
abbrev pub background_of : Option Rgb → ℕ → Rgb
background_of None maxval = record { r = maxval; g = maxval; b = maxval }
background_of (Some rgb) maxval = rgb

-- the palette with the background alone; a sample of it above the maxval is an error at the maxval's place
abbrev pub first_palette : Option Rgb → ℕ → ℕ → Result Colours PpmFault
first_palette background maxval place =
    if fits maxval (background_of background maxval) then Ok (only_background maxval (background_of background maxval))
    else Err (SampleOver place)

-- the maxval, with the background as the one colour so far
unfoldable pub palette_at : Option Rgb → ℕ → List Token → Result (Colours × List Token) PpmFault
palette_at background end tokens = do
  maxval ← numeral_at end tokens
  if maxval.0.value == 0 || nat_lt 65535 maxval.0.value then Err (BadMaxval maxval.0.place)
      else (first_palette background maxval.0.value maxval.0.place >>= λ colours. Ok (colours, maxval.1))

-- the number of a triple that is in the palette at a place, or is added to it
abbrev pub numbered_by : Option ℕ → Colours → Triple → Result (ℕ × Colours) PpmFault
numbered_by (Some number) colours triple = Ok (number, colours)
numbered_by None colours triple =
    if nat_lt (length colours.triples) MAX_COLOURS then Ok (length colours.triples, with_colour colours triple.colour)
    else Err (TooManyColours triple.place)

-- the number of a triple, and the palette with it
abbrev pub number_with : Colours → Triple → Result (ℕ × Colours) PpmFault
number_with colours triple = numbered_by (place_of triple.colour colours.triples) colours triple

-- one cell: its number, the palette after it and the tokens after it
unfoldable pub number_at : ℕ → Colours → List Token → Result (ℕ × Colours × List Token) PpmFault
number_at end colours tokens = do
  triple ← samples_at end colours.maxval tokens
  cell ← number_with colours triple.0
  Ok (cell.0, cell.1, triple.1)

-- `count` cells: their numbers, the palette after them and the tokens after them
unfoldable pub numbers_at : ℕ → ℕ → Colours → List Token → Result (List ℕ × Colours × List Token) PpmFault
numbers_at end zero colours tokens = Ok ([], colours, tokens)
numbers_at end (suc count) colours tokens = do
  first ← number_at end colours tokens
  others ← numbers_at end count first.1 first.2
  Ok (first.0 ∷ others.0, others.1, others.2)

-- x, or an error where a token is left
abbrev pub at_the_end : {A : Type 0} → A → List Token → Result A PpmFault
at_the_end x [] = Ok x
at_the_end x (token ∷ rest) = Err (TrailingToken token.place)

-- what precedes the cells: the sizes and the palette so far, with what is still to be read
pub record Header : Type 0 where
  pub width : ℕ
  pub height : ℕ
  pub colours : Colours
  pub rest : Unread

-- the magic, the width, the height and the maxval
unfoldable pub header_of : List ℕ → Option Rgb → Result Header PpmFault
header_of text background = do
  start ← magic_of text
  width ← side_at start.end start.tokens
  height ← side_at start.end width.1
  palette ← palette_at background start.end height.1
  Ok (record {
    width = width.0;
    height = height.0;
    colours = palette.0;
    rest = record { end = start.end; tokens = palette.1 };
  })

-- What the whole text says: the header, a triple for each cell, and no more. No cell is a given.
unfoldable pub ppm_of : List ℕ → Option Rgb → Result Content PpmFault
ppm_of text background = do
  header ← header_of text background
  cells ← numbers_at header.rest.end (header.height * header.width) header.colours header.rest.tokens
  at_the_end
      (record { colours = cells.1; rows = rows_of header.height header.width cells.0; givens = no_cells }) cells.2

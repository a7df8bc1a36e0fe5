-- The one text that is written for a picture.
use Rattle.std.specs.Prelude.{ℕ, List, ◌++◌, length, codes}
use Rattle.std.specs.List.{flat_map}
use Rattle.picture.specs.declared.rgb.Rgb.{Rgb}
use Rattle.picture.specs.Rows.{width_of, Rows}
use Rattle.picture.specs.Writers.{number_text}
use Rattle.picture.specs.Palette.{triple_at}
use Rattle.picture.specs.Document.{Content}

-- a cell's samples with spaces between them, on a line of their own
abbrev pub triple_text : Rgb → List ℕ
triple_text rgb = number_text rgb.r 32 ++ (number_text rgb.g 32 ++ number_text rgb.b 10)

-- the rows from the top, and the cells of each from the left, by the colours of the palette
abbrev pub rows_text : List Rgb → Rows → List ℕ
rows_text triples rows = flat_map (flat_map (λ cell. triple_text (triple_at triples cell))) rows

-- the width and the height on a line, and the maxval on a line
abbrev pub sizes_text : ℕ → ℕ → ℕ → List ℕ
sizes_text width height maxval = number_text width 32 ++ (number_text height 10 ++ number_text maxval 10)

-- the magic on a line, the sizes and the rows
abbrev pub ppm_text : Content → List ℕ
ppm_text d = codes "P3\n"
    ++ (sizes_text (width_of d.rows) (length d.rows) d.colours.maxval ++ rows_text d.colours.triples d.rows)

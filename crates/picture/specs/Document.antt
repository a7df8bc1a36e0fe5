-- Documents as their parts, what holds of each of them, and the ordered form.
use Rattle.std.specs.Prelude.{ℕ, ◌<◌, List, [], ◌∷◌, ◌++◌, length, map, unwrap_or, if◌then◌else◌}
use Rattle.std.specs.List.{list_any, flat_map}
use Rattle.picture.specs.declared.rgb.Rgb.{Rgb}
use Rattle.picture.specs.Palette.{Colours, rgb_eq, place_of, triple_at}
pub use Rattle.picture.specs.Palette.{first_of}
use Rattle.picture.specs.Rows.{width_of, cell_at, Rows}
use Rattle.picture.specs.CellSet.{HasCell}

-- each cell has a number that the palette has
abbrev pub AreColoured : Rows → Colours → Type 0
AreColoured rows colours = (i j : ℕ) → cell_at rows i j < length colours.triples

-- each given is a cell of the picture
abbrev pub AreInside : List ℕ → Rows → Type 0
AreInside givens rows = (i j : ℕ) → HasCell givens i j → (i < length rows) × (j < width_of rows)

-- a document as its parts: the colours by number, the rows of cells, and the set of givens
pub record Content : Type 0 where
  pub colours : Colours
  pub rows : Rows
  pub givens : List ℕ

-- the triples of a list of cells
abbrev pub triples_of : List Rgb → List ℕ → List Rgb
triples_of triples cells = map (triple_at triples) cells

-- what a picture shows: the triple of each cell
abbrev pub rows_shown : List Rgb → Rows → List (List Rgb)
rows_shown triples rows = map (triples_of triples) rows

-- the colours known, and then those of a list of cells that are not yet among them, by first appearance
abbrev pub seen_after : List Rgb → List Rgb → List Rgb
seen_after known [] = known
seen_after known (t ∷ cells) =
    if list_any (rgb_eq t) known then seen_after known cells else seen_after (known ++ t ∷ []) cells

-- a palette with colours added in order, each where the palette does not have it yet
abbrev pub with_seen : Colours → List Rgb → Colours
with_seen colours triples = record { maxval = colours.maxval; triples = seen_after colours.triples triples }

-- the number of a triple among colours that have it
abbrev pub number_among : List Rgb → Rgb → ℕ
number_among triples t = unwrap_or (place_of t triples) 0

-- the rows of a picture, with each cell renumbered by the number that its colour has among other colours
abbrev pub renumbered_rows : List Rgb → List Rgb → Rows → Rows
renumbered_rows among triples rows = map (λ row. map (number_among among) (triples_of triples row)) rows

-- the background, and after it the other colours that cells have, by first appearance in row order
abbrev pub ordered_triples : List Rgb → Rows → List Rgb
ordered_triples triples rows = seen_after (first_of triples ∷ []) (flat_map (triples_of triples) rows)

-- the ordered form of a document: its colours in that order, and its cells numbered by it
abbrev pub ordered_of : Content → Content
ordered_of d =
    let triples = ordered_triples d.colours.triples d.rows in
    record {
      colours = record { maxval = d.colours.maxval; triples = triples };
      rows = renumbered_rows triples d.colours.triples d.rows;
      givens = d.givens;
    }

-- Each cell has one of the palette's colours.
use Rattle.std.proofs.Common.{◌≡◌, ℕ, ◌<◌, true, List, [], ◌∷◌, length, get_or, arith, inl, inr}
use Rattle.std.specs.List.{list_any, flat_map}
use Rattle.std.proofs.lemmas.Bool.{cases_lt, or_left}
use Rattle.std.proofs.lemmas.List.{get_or_past}
use Rattle.std.proofs.lemmas.List.Folds.{list_any_at}
use Rattle.picture.specs.Rows.{Rows}
use Rattle.picture.specs.declared.rgb.Rgb.{Rgb}
use Rattle.picture.proofs.ColourLaws.{Among, every_append, fits_there, same}
use Rattle.picture.specs.Palette.{rgb_eq}
use Rattle.picture.specs.Document.{first_of, triples_of}
use Rattle.ppm_text.proofs.Numbering.{AreLawful}

pub first_among : (triples : List Rgb) → 0 < length triples → list_any (rgb_eq (first_of triples)) triples ≡ true
first_among [] some = absurd (omega arith)
first_among (t ∷ triples) some = or_left (rgb_eq t t) (list_any (rgb_eq t) triples) (same t)

looked_up_among : (triples : List Rgb) (k : ℕ) → 0 < length triples → list_any (rgb_eq (get_or triples k (first_of triples))) triples ≡ true
looked_up_among triples k some = elim (cases_lt k (length triples)) [
  | inl lt ↦ let t = get_or triples k (first_of triples) in list_any_at (rgb_eq t) triples k (first_of triples) lt (same t)
  | inr le ↦ rw (get_or_past triples k (first_of triples) le) (first_among triples some)
]

row_among : (triples : List Rgb) (row : List ℕ) → 0 < length triples → Among triples (triples_of triples row)
row_among triples [] some = tt
row_among triples (k ∷ row) some = (looked_up_among triples k some, row_among triples row some)

pub rows_among : (triples : List Rgb) (rows : Rows) → 0 < length triples → Among triples (flat_map (triples_of triples) rows)
rows_among triples [] some = tt
rows_among triples (row ∷ rows) some =
    every_append (λ t. list_any (rgb_eq t) triples ≡ true) (triples_of triples row) (flat_map (triples_of triples) rows) (row_among triples row some) (rows_among triples rows some)

pub all_lawful : (maxval : ℕ) (triples ts : List Rgb) → AreLawful maxval triples → Among triples ts → AreLawful maxval ts
all_lawful maxval triples [] lawful among = tt
all_lawful maxval triples (t ∷ ts) lawful among = (fits_there maxval t triples lawful among.0, all_lawful maxval triples ts lawful among.1)

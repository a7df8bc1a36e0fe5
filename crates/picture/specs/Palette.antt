-- A palette as its maxval and its colours, and what can be added to it.
use Rattle.std.specs.Prelude.{◌≡◌, ℕ, ◌+◌, ◌-◌, ◌<◌, ◌≤◌, Bool, ◌&&◌, List, [], ◌∷◌, ◌++◌, length, take, remove}
use Rattle.std.specs.Prelude.{slice_set, slice_index_or, Option, None, Some, nat_le, ◌==◌, if◌then◌else◌, IsTrue}
use Rattle.std.specs.List.{list_any, AllByRecursion, IsDistinct}
use Rattle.std.specs.Option.{option_map}
use Rattle.picture.specs.declared.rgb.Rgb.{Rgb}
use Rattle.picture.specs.declared.palette.PaletteFault.{PaletteFault}
use Rattle.picture.specs.declared.palette.PaletteFault.TheVariants.{Full, Duplicate, SampleOver, Background}
use Rattle.picture.specs.declared.picture.TheConstants.{MAX_COLOURS}

-- the largest sample, and the colours by their numbers: number 0 is the background
pub record Colours : Type 0 where
  pub maxval : ℕ
  pub triples : List Rgb

abbrev pub rgb_eq : Rgb → Rgb → Bool
rgb_eq a b = (a.r == b.r) && ((a.g == b.g) && (a.b == b.b))

-- no sample of the colour is above the maxval
abbrev pub fits : ℕ → Rgb → Bool
fits maxval rgb = nat_le rgb.r maxval && (nat_le rgb.g maxval && nat_le rgb.b maxval)

-- the background of a list of colours
abbrev pub first_of : List Rgb → Rgb
first_of triples = slice_index_or triples 0 (record { r = 0; g = 0; b = 0 })

-- the colour with a number, in a list of colours that has it
abbrev pub triple_at : List Rgb → ℕ → Rgb
triple_at triples k = slice_index_or triples k (first_of triples)

-- the number of a colour in a list of colours
abbrev pub place_of : Rgb → List Rgb → Option ℕ
place_of rgb [] = None
place_of rgb (t ∷ triples) = if rgb_eq rgb t then Some 0 else option_map (λ k. k + 1) (place_of rgb triples)

-- the palette with one colour more
abbrev pub with_colour : Colours → Rgb → Colours
with_colour colours rgb = record { maxval = colours.maxval; triples = colours.triples ++ rgb ∷ [] }

-- the palette of the background alone
abbrev pub only_background : ℕ → Rgb → Colours
only_background maxval rgb = record { maxval = maxval; triples = rgb ∷ [] }

-- why there is no palette with this maxval and background, if there is none
abbrev pub start_fault : ℕ → Rgb → Option PaletteFault
start_fault maxval rgb = if fits maxval rgb then None else Some SampleOver

-- the first reason why a colour cannot be added, if there is one
abbrev pub add_fault : Colours → Rgb → Option PaletteFault
add_fault colours rgb =
    if nat_le MAX_COLOURS (length colours.triples) then Some Full
    else (if list_any (rgb_eq rgb) colours.triples then Some Duplicate
    else (if fits colours.maxval rgb then None else Some SampleOver))

-- the palette with another colour at a number
abbrev pub with_triple : Colours → ℕ → Rgb → Colours
with_triple colours k rgb = record { maxval = colours.maxval; triples = slice_set colours.triples k rgb }

-- another number than k has the colour
abbrev pub stands_elsewhere : List Rgb → ℕ → Rgb → Bool
stands_elsewhere triples k rgb = list_any (rgb_eq rgb) (remove triples k)

-- the first reason why a colour cannot be set at a number, if there is one
abbrev pub set_fault : Colours → ℕ → Rgb → Option PaletteFault
set_fault colours k rgb =
    if stands_elsewhere colours.triples k rgb then Some Duplicate
    else (if fits colours.maxval rgb then (if k == 0 then Some Background else None) else Some SampleOver)

-- the palette without its last colour
abbrev pub without_last : Colours → Colours
without_last colours = record { maxval = colours.maxval; triples = take (length colours.triples - 1) colours.triples }

-- what every palette is: 1 to 16 colours, no two alike, with no sample above the maxval, which is 1 to 65,535
pub record IsPalette (colours : Colours) : Type 0 where
  pub has_maxval : 0 < colours.maxval
  pub maxval_fits : colours.maxval ≤ 65535
  pub has_background : 0 < length colours.triples
  pub colours_fit : length colours.triples ≤ MAX_COLOURS
  pub distinct : IsDistinct rgb_eq colours.triples
  pub samples_fit : AllByRecursion (λ rgb. IsTrue (fits colours.maxval rgb)) colours.triples

-- the colours are some of another palette's, under the same maxval
pub record AreAmong (known all : Colours) : Type 0 where
  pub maxval : known.maxval ≡ all.maxval
  pub each : AllByRecursion (λ rgb. IsTrue (list_any (rgb_eq rgb) all.triples)) known.triples

-- some palette has all known colours and this one
pub record HasPlaceFor (known : Colours) (rgb : Rgb) : Type 0 where
  pub all : Colours
  pub palette : IsPalette all
  pub among : AreAmong known all
  pub there : IsTrue (list_any (rgb_eq rgb) all.triples)

-- Colours of a palette in a cache, with their numbers.
use Rattle.std.specs.Prelude.{◌≡◌, List, Some, All}
use Rattle.picture.specs.declared.rgb.Rgb.{Rgb}
use Rattle.picture.specs.Palette.{place_of}
use Rattle.ppm_text.specs.declared.known.Known.{Known}

-- each colour is in the palette at its number
pub record AreKnown (triples : List Rgb) (known : List Known) : Type 0 where
  pub each : All (λ k. place_of k.colour triples ≡ Some k.number) known

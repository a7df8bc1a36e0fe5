-- The fields of a P3 text one by one: the sides, the samples and the triples.
use Rattle.std.specs.Prelude.{ℕ, nat_lt, ◌==◌, if◌then◌else◌, List, Result, Ok, Err}
use Rattle.picture.specs.Readers.{◌>>=◌}
use Rattle.picture.specs.declared.picture.TheConstants.{MAX_SIDE}
use Rattle.ppm_text.specs.declared.fault.PpmFault.{PpmFault}
use Rattle.ppm_text.specs.declared.fault.PpmFault.TheVariants.{EmptySize, TooLarge, SampleOver}
use Rattle.ppm_text.specs.declared.scanner.Numeral.{Numeral}
use Rattle.ppm_text.specs.declared.fields.Triple.{Triple}
use Rattle.ppm_text.specs.Tokens.{Token}
use Rattle.ppm_text.specs.Numerals.{numeral_at}

-- the width or the height
unfoldable pub side_at : ℕ → List Token → Result (ℕ × List Token) PpmFault
side_at end tokens = do
  side ← numeral_at end tokens
  if side.0.value == 0 then Err (EmptySize side.0.place)
      else (if nat_lt MAX_SIDE side.0.value then Err (TooLarge side.0.place) else Ok (side.0.value, side.1))

-- one of the three numbers of a colour
unfoldable pub sample_at : ℕ → ℕ → List Token → Result (Numeral × List Token) PpmFault
sample_at end maxval tokens = do
  sample ← numeral_at end tokens
  if nat_lt maxval sample.0.value then Err (SampleOver sample.0.place) else Ok sample

-- a colour, and the place of its first sample
unfoldable pub samples_at : ℕ → ℕ → List Token → Result (Triple × List Token) PpmFault
samples_at end maxval tokens = do
  r ← sample_at end maxval tokens
  g ← sample_at end maxval r.1
  b ← sample_at end maxval g.1
  Ok (record { place = r.0.place; colour = record { r = r.0.value; g = g.0.value; b = b.0.value } }, b.1)

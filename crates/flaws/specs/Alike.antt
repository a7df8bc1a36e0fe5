-- Colours that look alike.
use Rattle.std.specs.Prelude.{◌&&◌, ℕ, ◌+◌, ◌-◌, ◌*◌, ◌/◌, ◌%◌, Bool, List, filter, length, map, max, min, nat_lt}
use Rattle.std.specs.List.{range_with_len}
use Rattle.picture.specs.declared.rgb.Rgb.{Rgb}
use Rattle.picture.specs.Palette.{Colours, triple_at}
use Rattle.picture.specs.Rows.{Rows}
use Rattle.flaws.specs.declared.alike.Alike.{Alike}
use Rattle.flaws.specs.Cells.{is_shown}

-- a sample from 0 to a maxval as it is shown: from 0 to 255, rounded, halves up
abbrev pub sample_shown : ℕ → ℕ → ℕ
sample_shown maxval sample = min 255 ((510 * sample + maxval) / (2 * maxval))

-- a weight times the square of the difference of two samples
abbrev pub weighted : ℕ → ℕ → ℕ → ℕ
weighted weight one other = weight * (max one other - min one other) * (max one other - min one other)

-- 512 times the square of the distance of two colours that is named redmean
abbrev pub distance_of : Rgb → Rgb → ℕ
distance_of one other =
    weighted (1024 + (one.r + other.r)) one.r other.r
    + weighted 2048 one.g other.g
    + weighted (1534 - (one.r + other.r)) one.b other.b

abbrev pub rgb_shown : ℕ → Rgb → Rgb
rgb_shown maxval rgb = record {
  r = sample_shown maxval rgb.r;
  g = sample_shown maxval rgb.g;
  b = sample_shown maxval rgb.b;
}

-- two colours look alike where their distance, as they are shown, is below 64
abbrev pub look_alike : ℕ → Rgb → Rgb → Bool
look_alike maxval one other = nat_lt (distance_of (rgb_shown maxval one) (rgb_shown maxval other)) (512 * 64 * 64)

-- two of a puzzle's colours look alike, and the first has the lower letter
abbrev pub is_flaw : Colours → Rows → Alike → Bool
is_flaw colours rows pair =
    nat_lt pair.first pair.second
    && (nat_lt pair.second (length colours.triples)
    && (is_shown pair.first rows
    && (is_shown pair.second rows
    && look_alike colours.maxval (triple_at colours.triples pair.first) (triple_at colours.triples pair.second))))

-- pair i of the pairs of sixteen colours, by rising letters
abbrev pub pair_at : ℕ → Alike
pair_at i = record { first = i / 16; second = i % 16 }

-- those of the first n pairs that look alike
unfoldable pub alike_below : ℕ → Colours → Rows → List Alike
alike_below n colours rows = filter (is_flaw colours rows) (map pair_at (range_with_len 0 n))

-- the pairs that look alike, by rising letters
abbrev pub alike_pairs : Colours → Rows → List Alike
alike_pairs colours rows = alike_below 256 colours rows

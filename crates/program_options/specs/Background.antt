-- A background's colour as a word: three samples with commas between them, as `255,0,0`.
use Rattle.std.specs.Prelude.{ℕ, ◌+◌, ◌==◌, Bool, List, take, drop, Option, None, Some, option_map, position}
use Rattle.std.specs.Borrow.{Bor}
use Rattle.picture.specs.declared.rgb.Rgb.{Rgb}
use Rattle.command_text.specs.Numbers.{sample_of}

-- a sample, and what follows the comma at its end
abbrev pub sample_until : Option ℕ → List ℕ → Option (ℕ × List ℕ)
sample_until None text = None
sample_until (Some end) text = option_map (λ n. (n, drop (end + 1) text)) (sample_of (take end text))

abbrev pub is_comma : ℕ → Bool
is_comma b = b == 44

abbrev pub sample_before : List ℕ → Option (ℕ × List ℕ)
sample_before text = sample_until (position is_comma text) text

abbrev pub rgb : ℕ → ℕ → ℕ → Rgb
rgb r g b = record { r = r; g = g; b = b }

abbrev pub with_blue : ℕ → Option (ℕ × List ℕ) → Option Rgb
with_blue r None = None
with_blue r (Some green) = option_map (rgb r green.0) (sample_of green.1)

abbrev pub with_green : Option (ℕ × List ℕ) → Option Rgb
with_green None = None
with_green (Some red) = with_blue red.0 (sample_before red.1)

abbrev pub background_of : List ℕ → Option Rgb
background_of text = with_green (sample_before text)

-- a sample and what follows it, from what the function `sample_before` returns
abbrev pub sample_seen : ℕ × Bor (List ℕ) → ℕ × List ℕ
sample_seen x = (x.0, x.1.now)

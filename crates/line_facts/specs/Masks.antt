-- Masks of colours.
use Rattle.std.specs.Prelude.{◌≡◌, List, ℕ, IsBitSet, bit_and, ◌↔◌}
use Rattle.std.specs.Int.{bit_not, w16}

-- a grid of masks: for each cell of a picture, the colours that are left
abbrev pub Masks : Type 0
Masks = List (List ℕ)

-- the mask without the colours of another
abbrev pub without : ℕ → ℕ → ℕ
without mask colours = bit_and mask (bit_not w16 colours)

-- colour k alone is left
abbrev pub IsOnly : ℕ → ℕ → Type 0
IsOnly mask k = (j : ℕ) → IsBitSet mask j ↔ (j ≡ k)

-- all sixteen colours are left
abbrev pub all_sixteen : ℕ
all_sixteen = 65535

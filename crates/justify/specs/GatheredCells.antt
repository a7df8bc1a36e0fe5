-- Gathering the cells of a line in which its masks have colours, from the first cell on.
use Rattle.std.specs.Prelude.{◌≡◌, ℕ, ◌+◌, ◌<◌, ◌≤◌, ◌↔◌, List, slice_index}
use Rattle.std.specs.Int.{bit_at}
use Rattle.justify.specs.declared.premise.Premise.{Premise}
use Rattle.justify.specs.Premises.{premise_at}

-- the first `count` premises are those of the first n cells
pub record Gathered (masks : List ℕ) (n : ℕ) (found : List Premise) (count : ℕ) : Type 0 where
  pub within : count ≤ n
  pub before : (m : ℕ) → m < count → (premise_at found m).at < n
  pub colours : (m : ℕ) → m < count → (premise_at found m).colours ≡ slice_index masks (premise_at found m).at
  pub some : (m : ℕ) → m < count → 0 < (premise_at found m).colours
  pub rising : (m p : ℕ) → m < p → p < count → (premise_at found m).at < (premise_at found p).at
  pub each : (i : ℕ) → i < n → 0 < slice_index masks i → (m : ℕ) × (m < count) × ((premise_at found m).at ≡ i)

-- bit j of a number is set exactly where the cell at `place + j` is before `end` and has colours
pub record AreColoured (masks : List ℕ) (place end bits : ℕ) : Type 0 where
  pub each : (j : ℕ) → (bit_at bits j ≡ 1) ↔ ((place + j < end) × (0 < slice_index masks (place + j)))

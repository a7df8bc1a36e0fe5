-- Colours excluded along a line: a mask for each of the cells that have some.
use Rattle.std.specs.Prelude.{◌≡◌, ℕ, ◌<◌, ◌^◌, List, length, slice_index, slice_index_or, IsBitSet, ◌↔◌}
use Rattle.justify.specs.declared.premise.Premise.{Premise}

abbrev pub premise_at : List Premise → ℕ → Premise
premise_at premises n = slice_index_or premises n (record { at = 0; colours = 0 })

-- at ascending places, and each with at least one of the sixteen colours
pub record ArePremises (premises : List Premise) : Type 0 where
  pub rising : (m n : ℕ) → m < n → n < length premises → (premise_at premises m).at < (premise_at premises n).at
  pub some : (n : ℕ) → n < length premises → 0 < (premise_at premises n).colours
  pub small : (n : ℕ) → (premise_at premises n).colours < 2 ^ 16

-- one of them is at place i
pub record Mentions (premises : List Premise) (i : ℕ) : Type 0 where
  pub which : ℕ
  pub within : which < length premises
  pub here : (premise_at premises which).at ≡ i

-- the one at place i has colour k
pub record Says (premises : List Premise) (i k : ℕ) : Type 0 where
  pub which : ℕ
  pub within : which < length premises
  pub here : (premise_at premises which).at ≡ i
  pub colour : IsBitSet (premise_at premises which).colours k

-- colour k is said at place i, which is not the cell that is left out
abbrev pub SaysBut : List Premise → ℕ → ℕ → ℕ → Type 0
SaysBut premises cell i k = Says premises i k × (i ≡ cell → ⊥)

-- what is said is what the masks of a line have
abbrev pub SaysMasks : List ℕ → List Premise → Type 0
SaysMasks masks premises = (i k : ℕ) → Says premises i k ↔ IsBitSet (slice_index masks i) k

-- premises that say what the masks of a line have
pub record Gathers (masks : List ℕ) (premises : List Premise) : Type 0 where
  pub are : ArePremises premises
  pub says : SaysMasks masks premises

-- the masks of a line leave all sixteen colours but what is said
abbrev pub LeavesRest : List Premise → List ℕ → Type 0
LeavesRest premises left = (i k : ℕ) → i < length left
    → IsBitSet (slice_index left i) k ↔ ((k < 16) × (Says premises i k → ⊥))

-- masks of sixteen colours, each replaced by that of the colours that it does not have
pub record IsComplement (old new : List ℕ) : Type 0 where
  pub same_length : length new ≡ length old
  pub small : (i : ℕ) → slice_index old i < 2 ^ 16
  pub colours : (i k : ℕ) → i < length old
      → IsBitSet (slice_index new i) k ↔ ((k < 16) × (IsBitSet (slice_index old i) k → ⊥))

-- each mask replaced by that of the colours that `before` has there and it does not
pub record KeepsLost (before old new : List ℕ) : Type 0 where
  pub same_length : length new ≡ length old
  pub colours : (i k : ℕ)
      → IsBitSet (slice_index new i) k ↔ (IsBitSet (slice_index before i) k × (IsBitSet (slice_index old i) k → ⊥))

-- a cell of a line has a colour that is said there
pub record HasSaid (premises : List Premise) (left : List ℕ) : Type 0 where
  pub place : ℕ
  pub colour : ℕ
  pub says : Says premises place colour
  pub has : IsBitSet (slice_index left place) colour

-- exactly one bit of a line's masks is set, that of the colour at the place
pub record IsMark (place colour : ℕ) (masks : List ℕ) : Type 0 where
  pub here : IsBitSet (slice_index masks place) colour
  pub alone : (i k : ℕ) → IsBitSet (slice_index masks i) k → (i ≡ place) × (k ≡ colour)

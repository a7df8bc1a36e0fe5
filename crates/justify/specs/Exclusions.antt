-- What a line forces by its clue from some exclusions alone, whatever else is known of it.
use Rattle.std.specs.Prelude.{◌≡◌, ℕ, ◌<◌, List, length, slice_index}
use Rattle.clues.specs.declared.block.Block.{Block}
use Rattle.clues.specs.Clue.{clue_of}

-- A list of colours that a line of `cells` cells can have by its clue, none of which `said` excludes in its cell.
pub record FitsWithout (clue : List Block) (cells : ℕ) (said : ℕ → ℕ → Type 0) (line : List ℕ) : Type 0 where
  pub same_length : length line ≡ cells
  pub has_clue : clue_of line ≡ clue
  pub colours : (i : ℕ) → slice_index line i < 16
  pub avoids : (i : ℕ) → i < cells → said i (slice_index line i) → ⊥

-- some such list has colour k in cell i
pub record CanHaveWithout (clue : List Block) (cells : ℕ) (said : ℕ → ℕ → Type 0) (i k : ℕ) : Type 0 where
  pub line : List ℕ
  pub fits : FitsWithout clue cells said line
  pub within : i < cells
  pub has : slice_index line i ≡ k

-- no such list has colour k in cell i: from what is said alone, the line forces this exclusion
abbrev pub ForcesFrom : List Block → ℕ → (ℕ → ℕ → Type 0) → ℕ → ℕ → Type 0
ForcesFrom clue cells said i k = CanHaveWithout clue cells said i k → ⊥

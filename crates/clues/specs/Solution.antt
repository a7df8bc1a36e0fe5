-- Solutions of a puzzle, which has clues, cells that are given, and a known picture with the givens' colours.
use Rattle.std.specs.Prelude.{◌≡◌, ℕ, length}
use Rattle.picture.specs.Picture.{IsPicture}
use Rattle.picture.specs.Rows.{cell_at, row_at, Rows}
use Rattle.clues.specs.ClueBook.{Clues, clues_of}

-- A solution: a picture of the size of the known one that has the clues and, in each given,
-- the known picture's colour. If the known picture has the clues, it is a solution itself.
pub record Solves (clues : Clues) (Given : ℕ → ℕ → Type 0) (picture other : Rows) : Type 0 where
  pub is_picture : IsPicture other
  pub rows : length other ≡ length picture
  pub columns : (row : ℕ) → length (row_at other row) ≡ length (row_at picture row)
  pub has_clues : clues_of other ≡ clues
  pub keeps_givens : (row col : ℕ) → Given row col → cell_at other row col ≡ cell_at picture row col

-- another picture: a solution that is not the known picture
pub record IsOther (clues : Clues) (Given : ℕ → ℕ → Type 0) (picture other : Rows) : Type 0 where
  pub solves : Solves clues Given picture other
  pub differs : other ≡ picture → ⊥

-- the known picture is the only solution there can be
abbrev pub IsOnlySolution : Clues → (ℕ → ℕ → Type 0) → Rows → Type 0
IsOnlySolution clues Given picture = (other : Rows) → Solves clues Given picture other → other ≡ picture

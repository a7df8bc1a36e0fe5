-- A solution of a puzzle as a grid.
use Rattle.std.specs.Prelude.{ℕ}
use Rattle.picture.specs.Rows.{Rows}
use Rattle.clues.specs.ClueBook.{Clues}
use Rattle.clues.specs.Solution.{Solves}
use Rattle.line_facts.specs.FactSets.{SameShape}

-- a solution has the shape of the known picture
pub solved_shape : {clues : Clues} {Given : ℕ → ℕ → Type 0} {picture other : Rows} → Solves clues Given picture other → SameShape other picture
solved_shape s = record { rows = s.rows; each = s.columns }

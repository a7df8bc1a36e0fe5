-- What lines settle of a puzzle: the map, and the figures of line logic.
use Rattle.std.specs.Prelude.{◌≡◌, ℕ, List}
use Rattle.line_facts.specs.Masks.{Masks}
use Rattle.line_facts.specs.FactSets.{IsBase, IsLeast}
use Rattle.picture.specs.Rows.{Rows}
use Rattle.clues.specs.ClueBook.{clues_of}
use Rattle.grade.specs.declared.figures.Figures.{Figures}
use Rattle.grade.specs.Figures.{figures_of}
use Rattle.grade.specs.Looks.{Look}
use Rattle.grade.specs.Runs.{IsRun}
use Rattle.grade.specs.Starts.{IsStart}

-- the map: the least closed facts that hold what the givens exclude
abbrev pub IsMap : Rows → List ℕ → Masks → Type 0
IsMap picture givens map = (base : Masks) × (IsBase givens picture base × IsLeast (clues_of picture) base map)

-- the looks of line logic on the puzzle, the newest first, and the facts at the end
pub record AreLooks (picture : Rows) (givens : List ℕ) (looks : List Look) (end : Masks) : Type 0 where
  pub start : Masks
  pub is_start : IsStart (clues_of picture) givens picture start
  pub is_run : IsRun (clues_of picture) start looks end

-- the figures of line logic on the puzzle, which ends with the map
pub record HasFigures (picture : Rows) (givens : List ℕ) (figures : Figures) : Type 0 where
  pub looks : List Look
  pub map : Masks
  pub are_looks : AreLooks picture givens looks map
  pub is_map : IsMap picture givens map
  pub figures_are : figures ≡ figures_of looks map

use Rattle.std.proofs.Common.{ℕ, List, ◌<◌, ◌≤◌, length, map, drop}
use Rattle.line_settle.specs.Patterns.{finishes}
use Rattle.line_settle.specs.MarkedLists.{finishes_marked, AreReached, AreBehind, unmarked}
use Rattle.line_settle.specs.StateSets.{AreMovesOf, ArePatternSets, moves_of, sets_of}
use Rattle.line_settle.specs.Sweeps.{IsUndrawn}
use Rattle.line_settle.proofs.state_sets.PatternSets.note_last.Given as goal

abbrev pub invariant-cells : goal.invariant-cells
invariant-cells g l = record {
  inside : l.at ≤ length l.left;
  undrawn : IsUndrawn l.self.colours l.drawn l.at;
  later_is : (pattern : List ℕ) → ArePatternSets g.W.Word.width pattern (sets_of g.W.Word.bits l.self)
      → AreReached pattern (finishes pattern (drop l.at l.left)) (finishes_marked pattern (drop l.at l.left) (drop l.at l.drawn)) (unmarked (g.W.Word.bits l.states));
  cell_is : AreMovesOf g.W.Word.width (sets_of g.W.Word.bits l.self) l.cell.mask (moves_of g.W.Word.bits l.cell);
  noted : (pattern : List ℕ) → ArePatternSets g.W.Word.width pattern (sets_of g.W.Word.bits l.self) → (j : ℕ) → l.at ≤ j → j < length l.left
      → AreBehind pattern l.left l.drawn (map g.W.Word.bits l.plain) (map g.W.Word.bits l.marked) j;
}

abbrev pub decreases-cells : goal.decreases-cells
decreases-cells g l = l.at

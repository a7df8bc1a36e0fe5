use Rattle.std.proofs.Common.{ℕ, List, ◌<◌, ◌≤◌, length, map, drop}
use Rattle.line_settle.specs.Patterns.{finishes}
use Rattle.line_settle.specs.MarkedLists.{finishes_marked, AreReached, AreBehind, reached_of}
use Rattle.line_settle.specs.StateSets.{AreMovesOf, ArePatternSets, moves_of, sets_of}
use Rattle.line_settle.proofs.state_sets.PatternSets.note_behind.Given as goal

abbrev pub invariant-loop-i : goal.invariant-loop-i
invariant-loop-i g l = record {
  later_is : (pattern : List ℕ) → ArePatternSets g.W.Word.width pattern (sets_of g.W.Word.bits l.self)
      → AreReached pattern (finishes pattern (drop l.i l.left)) (finishes_marked pattern (drop l.i l.left) (drop l.i l.drawn)) (reached_of g.W.Word.bits l.later);
  cell_is : AreMovesOf g.W.Word.width (sets_of g.W.Word.bits l.self) l.cell.mask (moves_of g.W.Word.bits l.cell);
  noted : (pattern : List ℕ) → ArePatternSets g.W.Word.width pattern (sets_of g.W.Word.bits l.self) → (j : ℕ) → l.i ≤ j → j < length l.left
      → AreBehind pattern l.left l.drawn (map g.W.Word.bits l.plain) (map g.W.Word.bits l.marked) j;
}

use Rattle.std.proofs.Common.{map, ℕ, List}
use Rattle.line_settle.specs.MarkedLists.{reached_of, unmarked}
use Rattle.line_settle.specs.StateSets.{sets_of}
use Rattle.line_settle.specs.Sweeps.{SweptTo}
use Rattle.line_settle.proofs.state_sets.PatternSets.sweep_drawn.Given as goal

abbrev pub invariant-loop-i : goal.invariant-loop-i
invariant-loop-i g l = record {
  swept : (old : List ℕ) → SweptTo g.W.Word.width (sets_of g.W.Word.bits l.self) l.drawn (map g.W.Word.bits l.behind.plain.now) (map g.W.Word.bits l.behind.marked.now) old l.initial.left
      (unmarked (g.W.Word.bits l.fn.first.states)) l.fn.first.at
      → SweptTo g.W.Word.width (sets_of g.W.Word.bits l.self) l.drawn (map g.W.Word.bits l.behind.plain.now) (map g.W.Word.bits l.behind.marked.now) old l.left (reached_of g.W.Word.bits l.from) l.i;
}

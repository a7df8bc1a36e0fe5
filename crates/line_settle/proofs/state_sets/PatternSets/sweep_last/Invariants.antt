use Rattle.std.proofs.Common.{map, ℕ, List}
use Rattle.line_settle.specs.StateSets.{sets_of}
use Rattle.line_settle.specs.Sweeps.{SweptMarked}
use Rattle.line_settle.proofs.state_sets.PatternSets.sweep_last.Given as goal

abbrev pub invariant-loop-place : goal.invariant-loop-place
invariant-loop-place g l = record {
  swept : (old : List ℕ) → SweptMarked g.W.Word.width (sets_of g.W.Word.bits l.self) l.drawn (map g.W.Word.bits l.behind.plain.now) (map g.W.Word.bits l.behind.marked.now) old l.initial.left
      (g.W.Word.bits l.fn.before) l.behind.end
      → SweptMarked g.W.Word.width (sets_of g.W.Word.bits l.self) l.drawn (map g.W.Word.bits l.behind.plain.now) (map g.W.Word.bits l.behind.marked.now) old l.left (g.W.Word.bits l.marked) l.place;
}

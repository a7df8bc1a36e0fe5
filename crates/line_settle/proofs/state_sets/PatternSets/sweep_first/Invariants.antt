use Rattle.std.proofs.Common.{map, ◌≤◌, ◌-◌}
use Rattle.line_settle.specs.MarkedLists.{unmarked}
use Rattle.line_settle.specs.StateSets.{sets_of}
use Rattle.line_settle.specs.Sweeps.{SweptTo}
use Rattle.line_settle.proofs.state_sets.PatternSets.sweep_first.Given as goal

abbrev pub invariant-cells : goal.invariant-cells
invariant-cells g l = record {
  inside : l.at ≤ l.behind.end;
  swept : SweptTo g.W.Word.width (sets_of g.W.Word.bits l.self) l.drawn (map g.W.Word.bits l.behind.plain.now) (map g.W.Word.bits l.behind.marked.now) l.initial.left l.left
      (unmarked (g.W.Word.bits l.states)) l.at;
}

abbrev pub decreases-cells : goal.decreases-cells
decreases-cells g l = l.behind.end - l.at

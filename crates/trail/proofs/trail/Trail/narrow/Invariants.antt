use Rattle.std.proofs.Common.{◌≡◌}
use Rattle.line_facts.specs.FactSets.{SameShape}
use Rattle.trail.specs.Trail.{AreOthersSame, AreSameAbove}
use Rattle.trail.proofs.trail.Trail.narrow.Given as goal

abbrev pub invariant-loop-row : goal.invariant-loop-row
invariant-loop-row l = record {
  same_shape : SameShape l.self.at_hand l.settled;
  behind : l.self.behind ≡ l.fn.self.behind;
  cells : l.self.cells ≡ l.fn.self.cells;
  above : AreSameAbove l.self.at_hand l.settled l.row;
  others : AreOthersSame l.self.at_hand l.settled l.rows;
}

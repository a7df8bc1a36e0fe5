use Rattle.std.proofs.Common.{◌≡◌, List, length}
use Rattle.line_facts.specs.Counts.{counted}
use Rattle.fixpoint.specs.ClosedFacts.{AreClosable}
use Rattle.fixpoint.specs.LeftToDo.{left_to_do}
use Rattle.grade.specs.Looks.{Look}
use Rattle.grade.specs.Paths.{IsPath}
use Rattle.grade.specs.Walking.{CanWalk, Walks}
use Rattle.grade.proofs.pathing.make_path.Given as goal

abbrev pub invariant-loop-seen : goal.invariant-loop-seen
invariant-loop-seen g l = record {
  can : CanWalk l.facts l.walk;
  closable : AreClosable l.book (g.E.LineEngine.longest l.engine) l.facts;
  seen : List Look;
  walks : Walks l.book l.fn.facts seen l.facts l.walk;
  path : IsPath l.book seen l.looks.items;
  called : g.E.LineEngine.calls l.engine ≡ counted (g.E.LineEngine.calls l.fn.engine) (length seen);
  same_longest : g.E.LineEngine.longest l.engine ≡ g.E.LineEngine.longest l.fn.engine;
}

abbrev pub decreases-loop-seen : goal.decreases-loop-seen
decreases-loop-seen g l = left_to_do l.facts l.walk.due

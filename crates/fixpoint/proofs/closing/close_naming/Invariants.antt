use Rattle.std.proofs.Common.{◌≡◌}
use Rattle.fixpoint.specs.ClosedFacts.{evaluated}
use Rattle.fixpoint.proofs.ClosingLaws.{Closing, Keeping}
use Rattle.fixpoint.specs.LeftToDo.{left_to_do}
use Rattle.fixpoint.proofs.WorkLaws.{Working}
use Rattle.fixpoint.proofs.closing.close_naming.Given as goal

abbrev pub invariant-loop-line : goal.invariant-loop-line
invariant-loop-line g l = record {
  closing : Closing l.book (g.E.LineEngine.longest l.engine) l.fn.facts l.facts (g.A.Agenda.members l.agenda);
  working : Working l.book l.dirty l.fn.facts l.facts (g.A.Agenda.members l.agenda) (evaluated 0) (evaluated l.evaluations) (g.E.LineEngine.calls l.fn.engine) (g.E.LineEngine.calls l.engine);
  keeping : Keeping l.fn.facts l.facts (g.A.Agenda.members l.agenda) l.changed;
  same_longest : g.E.LineEngine.longest l.engine ≡ g.E.LineEngine.longest l.fn.engine;
}

abbrev pub decreases-loop-line : goal.decreases-loop-line
decreases-loop-line g l = left_to_do l.facts (g.A.Agenda.members l.agenda)

use Rattle.std.proofs.Common.{◌≡◌}
use Rattle.propagate.proofs.GrowLemmas.{ClosingBook}
use Rattle.fixpoint.specs.LeftToDo.{left_to_do}
use Rattle.propagate.proofs.closing_book.close.Given as goal

abbrev pub invariant-loop-line : goal.invariant-loop-line
invariant-loop-line g l = record {
  closing : ClosingBook l.clues (g.E.LineEngine.longest l.engine) l.dirty l.fn.book l.book (g.A.Agenda.members l.agenda) l.fn.meter l.meter (g.E.LineEngine.calls l.fn.engine)
      (g.E.LineEngine.calls l.engine);
  same_longest : g.E.LineEngine.longest l.engine ≡ g.E.LineEngine.longest l.fn.engine;
}

abbrev pub decreases-loop-line : goal.decreases-loop-line
decreases-loop-line g l = left_to_do l.book.facts (g.A.Agenda.members l.agenda)

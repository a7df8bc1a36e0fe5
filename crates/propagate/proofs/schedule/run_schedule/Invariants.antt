use Rattle.std.proofs.Common.{◌≡◌, drop}
use Rattle.line_facts.specs.Counts.{Counts}
use Rattle.propagate.proofs.ScheduleBookLemmas.{Scheduled}
use Rattle.propagate.proofs.schedule.run_schedule.Given as goal

abbrev pub invariant-loop-line : goal.invariant-loop-line
invariant-loop-line g l = record {
  scheduled : Scheduled l.clues (g.E.LineEngine.longest l.engine) l.fn.book l.book l.schedule (drop l.line-index l.schedule);
  counts : Counts l.line-index 0 l.fn.meter l.meter (g.E.LineEngine.calls l.fn.engine) (g.E.LineEngine.calls l.engine);
  same_longest : g.E.LineEngine.longest l.engine ≡ g.E.LineEngine.longest l.fn.engine;
}

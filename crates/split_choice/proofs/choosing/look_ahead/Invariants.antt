use Rattle.std.proofs.Common.{◌≡◌, ◌≤◌, max}
use Rattle.split_choice.proofs.choosing.look_ahead.Given as goal

abbrev pub invariant-loop-place : goal.invariant-loop-place
invariant-loop-place g l = record {
  calls : g.E.LineEngine.calls l.fn.engine ≤ g.E.LineEngine.calls l.engine;
  few : g.E.LineEngine.calls l.engine ≤ max (g.E.LineEngine.calls l.fn.engine) l.until;
  same_longest : g.E.LineEngine.longest l.engine ≡ g.E.LineEngine.longest l.fn.engine;
}

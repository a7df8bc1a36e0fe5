use Rattle.std.proofs.Common.{◌≡◌, ◌≤◌, max}
use Rattle.split_choice.proofs.looking.settle.Given as goal

abbrev pub invariant-loop : goal.invariant-loop
invariant-loop g l = record {
  calls : g.E.LineEngine.calls l.fn.engine ≤ g.E.LineEngine.calls l.engine;
  few : g.E.LineEngine.calls l.engine ≤ max (g.E.LineEngine.calls l.fn.engine) l.until;
  same_longest : g.E.LineEngine.longest l.engine ≡ g.E.LineEngine.longest l.fn.engine;
}

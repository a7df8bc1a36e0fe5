use Rattle.std.proofs.Common.{◌≡◌, ◌≤◌}
use Rattle.assess.proofs.SpareLemmas.{Tried}
use Rattle.assess.proofs.spare.find_spare.Given as goal

abbrev pub invariant-loop-row : goal.invariant-loop-row
invariant-loop-row g l = record {
  tried : Tried l.document.picture l.document.givens l.waiting l.row 0 (g.E.LineEngine.calls l.fn.engine) (g.E.LineEngine.calls l.engine);
  calls : g.E.LineEngine.calls l.fn.engine ≤ g.E.LineEngine.calls l.engine;
  same_longest : g.E.LineEngine.longest l.engine ≡ g.E.LineEngine.longest l.fn.engine;
}

abbrev pub invariant-loop-col : goal.invariant-loop-col
invariant-loop-col g l = record {
  tried : Tried l.document.picture l.document.givens l.waiting l.row l.col (g.E.LineEngine.calls l.fn.engine) (g.E.LineEngine.calls l.engine);
  calls : g.E.LineEngine.calls l.fn.engine ≤ g.E.LineEngine.calls l.engine;
  same_longest : g.E.LineEngine.longest l.engine ≡ g.E.LineEngine.longest l.fn.engine;
}

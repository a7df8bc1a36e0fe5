use Rattle.std.proofs.Common.{◌≡◌, ◌≤◌}
use Rattle.lemma_search.proofs.search.Search.propagate.Given as goal

abbrev pub invariant-loop : goal.invariant-loop
invariant-loop g l = record {
  same_longest : g.E.LineEngine.longest l.engine ≡ g.E.LineEngine.longest l.fn.engine;
  calls : g.E.LineEngine.calls l.fn.engine ≤ g.E.LineEngine.calls l.engine;
}

use Rattle.std.proofs.Common.{◌≡◌}
use Rattle.search_tables.proofs.bounded.decide.Given as goal

abbrev pub invariant-loop-i : goal.invariant-loop-i
invariant-loop-i g l = g.E.LineEngine.longest l.engine ≡ g.E.LineEngine.longest l.fn.engine

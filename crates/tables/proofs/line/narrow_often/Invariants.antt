use Rattle.std.proofs.Common.{◌≤◌, length}
use Rattle.tables.proofs.line.narrow_often.Given as goal

abbrev pub invariant-loop : goal.invariant-loop
invariant-loop g l = length l.left ≤ g.E.LineEngine.longest l.engine

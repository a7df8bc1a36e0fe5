use Rattle.std.proofs.Common.{◌+◌}
use Rattle.line_settle.specs.Positions.{IsColoured}
use Rattle.line_settle.proofs.positions.colour_cells.Given as goal

abbrev pub invariant-loop-j : goal.invariant-loop-j
invariant-loop-j l = IsColoured l.set l.colour l.keep l.first (l.first + l.j) l.initial.out l.out

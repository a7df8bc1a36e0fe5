use Rattle.std.proofs.Common.{◌≡◌, ℕ, ◌+◌, ◌<◌, get_or}
use Rattle.line_settle.specs.Patterns.{allows}
use Rattle.line_facts.specs.BitSets.{has}
use Rattle.line_settle.proofs.positions.few_with.Given as goal

abbrev pub invariant-loop-i : goal.invariant-loop-i
invariant-loop-i l = (j : ℕ) → j < 64 → has l.cells j ≡ allows (get_or l.left (l.i + j) 0) l.colour

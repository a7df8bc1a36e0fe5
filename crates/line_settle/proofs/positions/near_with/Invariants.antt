use Rattle.std.proofs.Common.{◌≡◌, ℕ, ◌*◌, ◌<◌, get_or, take}
use Rattle.line_settle.specs.Patterns.{allows}
use Rattle.line_facts.specs.BitSets.{has}
use Rattle.line_settle.proofs.positions.near_with.Given as goal

abbrev pub invariant-loop-chunk : goal.invariant-loop-chunk
invariant-loop-chunk l = (j : ℕ) → j < 64 → has l.cells j ≡ allows (get_or (take (16 * l.chunk) l.left) j 0) l.colour

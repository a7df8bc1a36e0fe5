use Rattle.std.proofs.Common.{◌≡◌, ℕ, ◌+◌, ◌*◌, ◌<◌}
use Rattle.line_facts.specs.BitSets.{has}
use Rattle.line_facts.specs.CrossedLines.{differs}
use Rattle.line_facts.proofs.apart.places_apart.Given as goal

abbrev pub invariant-loop-chunk : goal.invariant-loop-chunk
invariant-loop-chunk l = (j : ℕ) → j < 128 → has l.places j ≡ differs l.before l.after (16 * l.chunk + j)

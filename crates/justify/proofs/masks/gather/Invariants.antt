use Rattle.std.proofs.Common.{◌*◌}
use Rattle.justify.specs.GatheredCells.{Gathered}
use Rattle.justify.proofs.masks.gather.Given as goal

abbrev pub invariant-loop-chunk : goal.invariant-loop-chunk
invariant-loop-chunk l = Gathered l.masks (8 * l.chunk) l.found l.count

abbrev pub invariant-loop-place : goal.invariant-loop-place
invariant-loop-place l = Gathered l.masks l.place l.found l.count

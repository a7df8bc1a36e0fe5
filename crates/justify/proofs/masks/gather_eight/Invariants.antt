use Rattle.std.proofs.Common.{◌+◌, ◌-◌, ◌≤◌}
use Rattle.justify.specs.GatheredCells.{AreColoured, Gathered}
use Rattle.justify.proofs.masks.gather_eight.Given as goal

abbrev pub invariant-cells : goal.invariant-cells
invariant-cells l = record {
  within : l.count ≤ l.place;
  inside : l.place ≤ l.first + 8;
  gathered : Gathered l.masks l.place l.found l.count;
  rest : AreColoured l.masks l.place (l.first + 8) l.rest;
}

abbrev pub decreases-cells : goal.decreases-cells
decreases-cells l = l.first + 8 - l.place

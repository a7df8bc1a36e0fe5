use Rattle.std.proofs.Common.{◌≡◌, ◌*◌, ◌≤◌, take}
use Rattle.std.specs.Prelude.{count_ones}
use Rattle.std.specs.List.{sum_by}
use Rattle.grade.proofs.seen.colours_in.Given as goal

abbrev pub invariant-loop-mask : goal.invariant-loop-mask
invariant-loop-mask l = record {
  total : l.count ≡ sum_by count_ones (take l.mask-index l.masks);
  few : l.count ≤ 16 * l.mask-index;
}

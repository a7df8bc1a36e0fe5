use Rattle.std.proofs.Common.{◌≡◌, ◌*◌, ◌≤◌, take}
use Rattle.picture.specs.declared.picture.TheConstants.{MAX_SIDE}
use Rattle.picture.specs.CellSet.{cell_count}
use Rattle.picture.proofs.cell_set.CellSet.len.Given as goal

abbrev pub invariant-loop-mask : goal.invariant-loop-mask
invariant-loop-mask l = record { counted : l.count ≡ cell_count (take l.mask-index l.mask-items); few : l.count ≤ MAX_SIDE * l.mask-index }

use Rattle.std.proofs.Common.{◌≡◌, ◌++◌, take}
use Rattle.std.specs.List.{flat_map}
use Rattle.check_host.specs.Flaws.{pair_bytes}
use Rattle.check_host.proofs.flawed.push_pairs.Given as goal

abbrev pub invariant-loop-pair : goal.invariant-loop-pair
invariant-loop-pair l = l.bytes.items ≡ l.fn.bytes.items ++ flat_map pair_bytes (take l.pair-index l.pairs)

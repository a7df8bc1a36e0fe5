use Rattle.std.proofs.Common.{◌≡◌}
use Rattle.std.specs.List.{filter_map, range_with_len}
use Rattle.grade.specs.Needs.{premise_at}
use Rattle.grade.proofs.needs.gather.Given as goal

abbrev pub invariant-loop-place : goal.invariant-loop-place
invariant-loop-place l = l.premises.items ≡ filter_map (premise_at l.masks) (range_with_len 0 l.place)

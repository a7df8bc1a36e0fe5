use Rattle.std.proofs.Common.{◌≡◌}
use Rattle.std.specs.List.{filter_map, range_with_len}
use Rattle.grade.specs.Looks.{fall_at}
use Rattle.grade.proofs.seen.Seen.falls.Given as goal

abbrev pub invariant-loop-place : goal.invariant-loop-place
invariant-loop-place l = l.falls.items ≡ filter_map (fall_at l.before l.after) (range_with_len 0 l.place)

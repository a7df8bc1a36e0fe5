use Rattle.std.proofs.Common.{ℕ, ◌<◌, ◌≤◌, get_or}
use Rattle.std.specs.Prelude.{count_ones}
use Rattle.picture.specs.Rows.{line_of}
use Rattle.grade.proofs.walk.has_open_cell.Given as goal

abbrev pub invariant-loop-place : goal.invariant-loop-place
invariant-loop-place l = (i : ℕ) → i < l.place → count_ones (get_or (line_of l.facts l.line) i 0) ≤ 1

use Rattle.std.proofs.Common.{◌≡◌, ◌+◌, ◌*◌, ◌≤◌, take}
use Rattle.std.specs.Prelude.{count_by}
use Rattle.std.specs.List.{sum_by}
use Rattle.picture.specs.Rows.{row_at}
use Rattle.grade.specs.Looks.{is_open}
use Rattle.grade.proofs.figures.open_cells.Given as goal

abbrev pub invariant-loop-row : goal.invariant-loop-row
invariant-loop-row l = record {
  total : l.count ≡ sum_by (count_by is_open) (take l.row l.facts);
  few : l.count ≤ 120 * l.row;
}

abbrev pub invariant-loop-col : goal.invariant-loop-col
invariant-loop-col l = record {
  total : l.count ≡ sum_by (count_by is_open) (take l.row l.facts) + count_by is_open (take l.col (row_at l.facts l.row));
  few : l.count ≤ 120 * l.row + l.col;
}

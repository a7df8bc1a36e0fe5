use Rattle.std.proofs.Common.{◌≡◌, ◌+◌, ◌≤◌, ◌++◌, take, map, vec_len, vec_capacity}
use Rattle.picture.specs.Rows.{row_at}
use Rattle.report_text.specs.Shown.{letter}
use Rattle.report_text.proofs.shown.push_row.Given as goal

abbrev pub invariant-loop-col : goal.invariant-loop-col
invariant-loop-col l = record {
  items : l.text.items ≡ l.fn.text.items ++ map letter (take l.col (row_at l.picture l.row));
  kept : vec_capacity l.fn.text ≤ vec_capacity l.text;
  taken : vec_len l.text ≤ vec_len l.fn.text + l.col;
}

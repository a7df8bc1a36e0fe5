use Rattle.std.proofs.Common.{◌≡◌, ◌+◌, ◌*◌, ◌≤◌, ◌++◌, take, vec_len, vec_capacity}
use Rattle.std.specs.List.{flat_map}
use Rattle.picture.specs.Rows.{width_of}
use Rattle.report_text.specs.Shown.{letter, shown_row}
use Rattle.report_text.proofs.shown.push_picture.Given as goal

abbrev pub invariant-loop-row : goal.invariant-loop-row
invariant-loop-row l = record {
  items : l.text.items ≡ l.fn.text.items ++ flat_map (shown_row letter) (take l.row l.picture);
  kept : vec_capacity l.fn.text ≤ vec_capacity l.text;
  taken : vec_len l.text ≤ vec_len l.fn.text + l.row * (width_of l.picture + 1);
}

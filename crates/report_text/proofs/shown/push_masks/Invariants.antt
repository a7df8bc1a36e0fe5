use Rattle.std.proofs.Common.{◌≡◌, length, take, map}
use Rattle.picture.specs.Rows.{row_at}
use Rattle.report_text.specs.Shown.{mask_letter}
use Rattle.report_text.proofs.shown.push_masks.Given as goal

abbrev pub invariant-loop-col : goal.invariant-loop-col
invariant-loop-col l = record {
  whole : length l.letters ≡ 120;
  so_far : take l.col l.letters ≡ map mask_letter (take l.col (row_at l.facts l.row));
}

use Rattle.std.proofs.Common.{◌≡◌, ◌++◌, take, map}
use Rattle.std.specs.List.{flat_map}
use Rattle.picture.specs.Rows.{row_at}
use Rattle.non_text.specs.Written.{digit_of}
use Rattle.non_text.proofs.text.put_rows.Given as goal

abbrev pub invariant-loop-at : goal.invariant-loop-at
invariant-loop-at l = l.text.items ≡ l.fn.text.items ++ flat_map (map digit_of) (take l.at l.picture)

abbrev pub invariant-loop-cell : goal.invariant-loop-cell
invariant-loop-cell l = l.text.items ++ map digit_of l.cell-iterator ≡ (l.fn.text.items ++ flat_map (map digit_of) (take l.at l.picture)) ++ map digit_of (row_at l.picture l.at)

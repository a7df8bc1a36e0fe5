use Rattle.std.proofs.Common.{ℕ, ◌<◌, get_or}
use Rattle.picture.specs.declared.line_id.LineId.{LineId}
use Rattle.picture.specs.Rows.{HasLine}
use Rattle.tables.proofs.table.books.are_lines.Given as goal

abbrev pub invariant-loop-line : goal.invariant-loop-line
invariant-loop-line l = (i : ℕ) (none : LineId) → i < l.line-index → HasLine l.facts (get_or l.lines i none)

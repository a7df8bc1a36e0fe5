use Rattle.std.proofs.Common.{◌≡◌, ℕ, ◌<◌, ◌≤◌, length, drop}
use Rattle.line_settle.specs.Patterns.{finishes, truth_at, table_row}
use Rattle.line_settle.proofs.tables.mark_finishing.Given as goal

abbrev pub invariant-loop-i : goal.invariant-loop-i
invariant-loop-i l = record {
  row_is : (q : ℕ) → q < length l.pattern → truth_at l.row q ≡ finishes l.pattern (drop l.i l.left) q;
  stored : (j q : ℕ) → l.i ≤ j → j ≤ length l.left → q < length l.pattern → table_row l.table (length l.row) j q ≡ finishes l.pattern (drop j l.left) q;
}

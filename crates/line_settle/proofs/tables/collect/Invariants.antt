use Rattle.std.proofs.Common.{◌≡◌, ℕ, ◌+◌, ◌<◌, length, drop, get_or}
use Rattle.line_settle.specs.Patterns.{allows, finishes, reaches, passes_below, truth_at}
use Rattle.line_settle.proofs.tables.collect.Given as goal

abbrev pub invariant-loop-i : goal.invariant-loop-i
invariant-loop-i l = record {
  row_is : (q : ℕ) → q < length l.pattern → truth_at l.row q ≡ reaches l.pattern l.left l.i q;
  written : (j k : ℕ) → j < l.i → allows (get_or l.out j 0) k ≡ passes_below l.pattern (get_or l.left j 0) (reaches l.pattern l.left j) (finishes l.pattern (drop (j + 1) l.left)) (length l.pattern) k;
}

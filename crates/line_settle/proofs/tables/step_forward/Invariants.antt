use Rattle.std.proofs.Common.{◌≡◌, ℕ, ◌<◌, ◌≤◌, length}
use Rattle.line_settle.specs.Patterns.{reach_step, truth_at}
use Rattle.line_settle.proofs.tables.step_forward.Given as goal

abbrev pub invariant-loop-q : goal.invariant-loop-q
invariant-loop-q l = record {
  stepped : (r : ℕ) → l.q ≤ r → r < length l.pattern → truth_at l.row r ≡ reach_step l.pattern l.mask (truth_at l.initial.row) r;
  kept : (r : ℕ) → r < l.q → truth_at l.row r ≡ truth_at l.initial.row r;
}

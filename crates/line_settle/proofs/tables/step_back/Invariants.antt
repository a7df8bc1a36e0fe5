use Rattle.std.proofs.Common.{◌≡◌, ℕ, ◌<◌, ◌≤◌}
use Rattle.line_settle.specs.Patterns.{finish_step, truth_at}
use Rattle.line_settle.proofs.tables.step_back.Given as goal

abbrev pub invariant-loop-q : goal.invariant-loop-q
invariant-loop-q l = record {
  stepped : (r : ℕ) → r < l.q → truth_at l.row r ≡ finish_step l.pattern l.mask (truth_at l.initial.row) r;
  kept : (r : ℕ) → l.q ≤ r → truth_at l.row r ≡ truth_at l.initial.row r;
}

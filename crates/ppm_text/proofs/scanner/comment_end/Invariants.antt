use Rattle.std.proofs.Common.{length, ◌-◌, ◌≡◌, ◌≤◌, drop, true, false}
use Rattle.ppm_text.specs.Tokens.{tokens_from, without_comments}
use Rattle.ppm_text.proofs.scanner.comment_end.Given as goal

abbrev pub invariant-loop-at : goal.invariant-loop-at
invariant-loop-at l = record {
  further : l.from ≤ l.at;
  within : l.at ≤ length l.bytes;
  same : tokens_from false l.at (without_comments true (drop l.at l.bytes)) ≡ tokens_from false l.from (without_comments true (drop l.from l.bytes));
}

abbrev pub decreases-loop-at : goal.decreases-loop-at
decreases-loop-at l = length l.bytes - l.at

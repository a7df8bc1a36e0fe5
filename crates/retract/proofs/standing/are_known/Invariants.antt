use Rattle.std.proofs.Common.{ℕ, ◌<◌}
use Rattle.justify.specs.Premises.{premise_at}
use Rattle.retract.specs.StandingSteps.{ExcludesAll}
use Rattle.retract.proofs.standing.are_known.Given as goal

abbrev pub invariant-loop-premise : goal.invariant-loop-premise
invariant-loop-premise l = (n : ℕ) → n < l.premise-index → ExcludesAll l.known l.line (premise_at l.premises n).at (premise_at l.premises n).colours

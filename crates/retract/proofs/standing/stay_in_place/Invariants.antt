use Rattle.std.proofs.Common.{ℕ, ◌<◌}
use Rattle.clues.specs.Change.{Stays}
use Rattle.justify.specs.Premises.{premise_at}
use Rattle.retract.proofs.standing.stay_in_place.Given as goal

abbrev pub invariant-loop-premise : goal.invariant-loop-premise
invariant-loop-premise l = (n : ℕ) → n < l.premise-index → Stays l.change.moves l.axis (premise_at l.premises n).at

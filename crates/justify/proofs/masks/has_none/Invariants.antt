use Rattle.std.proofs.Common.{◌≡◌, ℕ, ◌<◌, get_or, bit_and}
use Rattle.justify.specs.Premises.{premise_at}
use Rattle.justify.proofs.masks.has_none.Given as goal

abbrev pub invariant-loop-premise : goal.invariant-loop-premise
invariant-loop-premise l = (m : ℕ) → m < l.premise-index → bit_and (get_or l.left (premise_at l.premises m).at 0) (premise_at l.premises m).colours ≡ 0

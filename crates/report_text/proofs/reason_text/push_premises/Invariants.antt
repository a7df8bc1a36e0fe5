use Rattle.std.proofs.Common.{◌≡◌, ◌++◌, codes, take}
use Rattle.std.specs.List.{flat_map}
use Rattle.report_text.specs.ReasonText.{premise_text}
use Rattle.report_text.proofs.reason_text.push_premises.Given as goal

abbrev pub invariant-loop-premise : goal.invariant-loop-premise
invariant-loop-premise l = l.text.items ≡ l.fn.text.items ++ (codes " given" ++ flat_map premise_text (take l.premise-index l.premises))

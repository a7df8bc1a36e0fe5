use Rattle.std.proofs.Common.{◌≡◌, ◌++◌}
use Rattle.std.specs.List.{range_with_len}
use Rattle.report_text.proofs.ShownLemmas.{letters_among}
use Rattle.report_text.proofs.reason_text.push_left.Given as goal

abbrev pub invariant-loop-colour : goal.invariant-loop-colour
invariant-loop-colour l = l.text.items ≡ l.initial.text.items ++ letters_among l.excluded (range_with_len 0 l.colour)

use Rattle.std.proofs.Common.{◌≡◌, drop}
use Rattle.non_text.specs.WrittenNon.{is_two_colour}
use Rattle.non_text.proofs.writing.is_two_colour.Given as goal

abbrev pub invariant-loop-at : goal.invariant-loop-at
invariant-loop-at l = is_two_colour (drop l.at l.picture) ≡ is_two_colour l.picture

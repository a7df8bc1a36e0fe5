use Rattle.std.proofs.Common.{◌≡◌, ◌++◌, take}
use Rattle.std.specs.List.{flat_map}
use Rattle.clues.specs.ClueBook.{clues_along}
use Rattle.non_text.proofs.TextLemmas.{ended_clue}
use Rattle.non_text.proofs.text.put_clues.Given as goal

abbrev pub invariant-loop-at : goal.invariant-loop-at
invariant-loop-at l = l.text.items ≡ l.fn.text.items ++ flat_map ended_clue (take l.at (clues_along l.axis l.clues))

use Rattle.std.proofs.Common.{◌≡◌}
use Rattle.clues.proofs.BookLaws.{first_clues}
use Rattle.clues.proofs.clue_book.clues_along.Given as goal

abbrev pub invariant-loop-at : goal.invariant-loop-at
invariant-loop-at l = l.clues.items ≡ first_clues l.axis l.picture l.at

use Rattle.std.proofs.Common.{◌≡◌, take}
use Rattle.clues.proofs.BookLaws.{first_clues}
use Rattle.clues.proofs.clue_book.are_clues.Given as goal

abbrev pub invariant-loop-at : goal.invariant-loop-at
invariant-loop-at l = first_clues l.axis l.picture l.at ≡ take l.at l.clues

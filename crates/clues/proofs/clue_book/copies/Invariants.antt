use Rattle.std.proofs.Common.{◌≡◌, take}
use Rattle.clues.proofs.clue_book.copies.Given as goal

abbrev pub invariant-loop-clue : goal.invariant-loop-clue
invariant-loop-clue l = l.copies.items ≡ take l.clue-index l.clues.items

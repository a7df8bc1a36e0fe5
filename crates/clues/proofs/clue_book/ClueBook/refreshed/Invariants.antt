use Rattle.std.proofs.Common.{◌≡◌, length}
use Rattle.clues.specs.Change.{EachAlong, IsNewClue, IsOldClue}
use Rattle.clues.proofs.clue_book.ClueBook.refreshed.Given as goal

abbrev pub invariant-loop-at : goal.invariant-loop-at
invariant-loop-at l = record {
  count : length l.clues.items ≡ l.at;
  copied : EachAlong l.axis l.clues.items (IsOldClue l.change l.self);
  counted : EachAlong l.axis l.clues.items (IsNewClue l.change l.picture);
}

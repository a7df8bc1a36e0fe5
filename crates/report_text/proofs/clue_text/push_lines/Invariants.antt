use Rattle.std.proofs.Common.{◌≡◌, ◌++◌, take}
use Rattle.clues.specs.ClueBook.{clues_along}
use Rattle.report_text.specs.ClueText.{letter_of, numbered_clues}
use Rattle.report_text.proofs.clue_text.push_lines.Given as goal

abbrev pub invariant-loop-at : goal.invariant-loop-at
invariant-loop-at l = l.text.items ≡ l.initial.text.items ++ numbered_clues (letter_of l.axis) 1 (take l.at (clues_along l.axis l.book))

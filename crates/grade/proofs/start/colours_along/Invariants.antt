use Rattle.std.proofs.Common.{ℕ, ◌<◌, ◌↔◌, [], get_or}
use Rattle.std.specs.Prelude.{IsBitSet}
use Rattle.clues.specs.ClueBook.{clues_along}
use Rattle.grade.specs.Starts.{HasColour}
use Rattle.grade.proofs.start.colours_along.Given as goal

abbrev pub invariant-loop-at : goal.invariant-loop-at
invariant-loop-at l = (k : ℕ) → IsBitSet l.colours k ↔ ((at : ℕ) × (at < l.at) × HasColour (get_or (clues_along l.axis l.book) at []) k)

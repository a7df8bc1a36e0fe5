use Rattle.std.proofs.Common.{◌≡◌, ℕ, ◌<◌, length}
use Rattle.picture.specs.Rows.{line_of}
use Rattle.clues.specs.ClueBook.{clue_at}
use Rattle.justify.specs.Steps.{step_at, IsForcedStep}
use Rattle.justify.proofs.book.Book.stands.Given as goal

abbrev pub invariant-loop-step : goal.invariant-loop-step
invariant-loop-step g l = record {
  same_longest : g.E.LineEngine.longest l.engine ≡ g.E.LineEngine.longest l.fn.engine;
  so_far : (m : ℕ) → m < l.step-index → IsForcedStep (clue_at l.clues (step_at l.self.steps m).line) (length (line_of l.self.base (step_at l.self.steps m).line)) (step_at l.self.steps m);
}

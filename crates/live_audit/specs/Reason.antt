-- Why a colour is not in a cell.
use Rattle.std.specs.Prelude.{ℕ}
use Rattle.line_facts.specs.FactSets.{Excludes, Leaves}
use Rattle.justify.specs.Reasons.{Argues}
use Rattle.live_audit.specs.Bench.{Seen}
use Rattle.live_audit.specs.declared.why.Why.{Why}
use Rattle.live_audit.specs.declared.why.Why.TheVariants.{Possible, Given, By}

-- The colour is left; or the givens alone exclude it; or a step of the book does. Then the reason has those premises
-- of the step that its line needs to force this, and no more.
abbrev pub Explains : Seen → ℕ → ℕ → ℕ → Why → Type 0
Explains s row col k Possible = Leaves s.book.facts row col k
Explains s row col k Given = Excludes s.book.base row col k
Explains s row col k (By reason) = Leaves s.book.base row col k × Argues s.clues s.book row col k reason

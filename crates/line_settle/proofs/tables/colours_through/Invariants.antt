use Rattle.std.proofs.Common.{◌≡◌, ℕ}
use Rattle.line_settle.specs.Patterns.{allows, passes_below, truth_at}
use Rattle.line_settle.proofs.tables.colours_through.Given as goal

abbrev pub invariant-loop-q : goal.invariant-loop-q
invariant-loop-q l = (k : ℕ) → allows l.seen k ≡ passes_below l.pattern l.mask (truth_at l.before) (truth_at l.later) l.q k

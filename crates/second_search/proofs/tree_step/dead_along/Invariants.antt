use Rattle.std.proofs.Common.{◌≡◌, ◌+◌, ◌<◌, ◌≤◌, ℕ}
use Rattle.picture.specs.Rows.{line_of}
use Rattle.clues.specs.ClueBook.{clue_at}
use Rattle.line_facts.specs.Fits.{CanFit}
use Rattle.second_search.proofs.tree_step.dead_along.Given as goal

abbrev pub invariant-loop-at : goal.invariant-loop-at
invariant-loop-at g l = record {
  fit : (at : ℕ) → at < l.at → CanFit (clue_at l.clues (record { axis = l.axis; at = at })) (line_of l.facts (record { axis = l.axis; at = at }));
  calls : g.E.LineEngine.calls l.fn.engine ≤ g.E.LineEngine.calls l.engine;
  few : g.E.LineEngine.calls l.engine ≤ g.E.LineEngine.calls l.fn.engine + l.at;
  same_longest : g.E.LineEngine.longest l.engine ≡ g.E.LineEngine.longest l.fn.engine;
}

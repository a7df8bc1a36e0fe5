use Rattle.std.proofs.Common.{◌≡◌, ◌+◌, ◌*◌, ◌≤◌}
use Rattle.line_facts.specs.Counts.{counted}
use Rattle.second_search.specs.Evaluations.{most_in_tree}
use Rattle.second_search.proofs.ladder.take_turn.Given as goal

abbrev pub invariant-loop-choice : goal.invariant-loop-choice
invariant-loop-choice g l = record {
  calls : g.E.LineEngine.calls l.fn.engine ≤ g.E.LineEngine.calls l.engine;
  few : g.E.LineEngine.calls l.engine ≤ g.E.LineEngine.calls l.fn.engine + l.choice-index * most_in_tree l.scene.facts.now l.bound;
  unspent : l.fn.spent ≤ l.bound → l.spent ≡ l.fn.spent;
  reached : l.fn.spent ≤ l.bound → counted (g.E.LineEngine.calls l.fn.engine) (l.choice-index * l.bound) ≤ g.E.LineEngine.calls l.engine;
  same_longest : g.E.LineEngine.longest l.engine ≡ g.E.LineEngine.longest l.fn.engine;
}

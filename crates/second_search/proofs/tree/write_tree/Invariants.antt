use Rattle.std.proofs.Common.{◌≡◌, ◌≤◌, ◌∷◌, max}
use Rattle.second_search.specs.declared.tree_lines.Lines.{Lines}
use Rattle.second_search.specs.Evaluations.{last_call}
use Rattle.second_search.specs.Trees.{AreNone}
use Rattle.second_search.proofs.TreeLemmas.{Said}
use Rattle.second_search.proofs.WeightLemmas.{load}
use Rattle.second_search.proofs.tree.write_tree.Given as goal

abbrev pub invariant-loop-growing : goal.invariant-loop-growing
invariant-loop-growing g l = record {
  said : (start : Lines) × (AreNone l.keeps start × Said l.scene.clues.now l.scene.picture.now l.scene.facts.now start l.growing);
  calls : g.E.LineEngine.calls l.fn.engine ≤ g.E.LineEngine.calls l.engine;
  few : g.E.LineEngine.calls l.engine ≤ max (g.E.LineEngine.calls l.fn.engine) (last_call l.way.until);
  same_longest : g.E.LineEngine.longest l.engine ≡ g.E.LineEngine.longest l.fn.engine;
}

abbrev pub decreases-loop-growing : goal.decreases-loop-growing
decreases-loop-growing g l = load (l.growing.trail.at_hand ∷ l.growing.trail.behind)

use Rattle.std.proofs.Common.{◌≡◌, ◌+◌, ◌≤◌, drop, reverse}
use Rattle.line_facts.specs.FactSets.{SameShape}
use Rattle.cert_check.specs.Tree.{Tree, Proves, written}
use Rattle.cert_check.specs.Walk.{CanCheck}
use Rattle.assess.specs.Guessing.{depth_of}
use Rattle.assess.proofs.AheadLemmas.{IsAhead}
use Rattle.assess.proofs.nesting.depth_from.Given as goal

abbrev pub invariant-loop-line : goal.invariant-loop-line
invariant-loop-line g l = record {
  can : CanCheck l.picture l.clues (g.E.LineEngine.longest l.engine);
  same_longest : g.E.LineEngine.longest l.engine ≡ g.E.LineEngine.longest l.initial.engine;
  few : g.E.LineEngine.calls l.engine ≤ g.E.LineEngine.calls l.initial.engine + l.line-index;
  calls : g.E.LineEngine.calls l.initial.engine ≤ g.E.LineEngine.calls l.engine;
  same_shape : SameShape l.picture l.trail.at_hand;
  ahead : (tree : Tree) → l.lines ≡ written tree → Proves l.picture l.fn.facts tree
      → IsAhead l.picture l.trail (reverse l.nests.items) (drop l.line-index l.lines) l.depth (depth_of tree);
}

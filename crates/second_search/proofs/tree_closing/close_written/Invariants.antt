use Rattle.std.proofs.Common.{◌≡◌, ◌≤◌, max}
use Rattle.line_facts.specs.declared.line_engine.Outcome.TheVariants.{Narrowed}
use Rattle.fixpoint.specs.ClosedFacts.{AreClosable}
use Rattle.second_search.specs.Trees.{Settles}
use Rattle.second_search.proofs.tree_closing.close_written.Given as goal

abbrev pub invariant-loop : goal.invariant-loop
invariant-loop g l = record {
  settles : Settles l.clues l.fn.facts l.facts l.fn.lines l.lines Narrowed;
  closable : AreClosable l.clues (g.E.LineEngine.longest l.engine) l.facts;
  calls : g.E.LineEngine.calls l.fn.engine ≤ g.E.LineEngine.calls l.engine;
  few : g.E.LineEngine.calls l.engine ≤ max (g.E.LineEngine.calls l.fn.engine) l.until;
  same_longest : g.E.LineEngine.longest l.engine ≡ g.E.LineEngine.longest l.fn.engine;
}

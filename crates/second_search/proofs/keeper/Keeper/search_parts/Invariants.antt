use Rattle.std.proofs.Common.{◌≡◌, ◌≤◌, ◌-◌}
use Rattle.second_search.specs.JudgedParts.{DoneBy, Passes}
use Rattle.second_search.specs.Evaluations.{AreFew}
use Rattle.second_search.specs.Parts.{board}
use Rattle.second_search.proofs.keeper.Keeper.search_parts.Given as goal

abbrev pub invariant-loop-i : goal.invariant-loop-i
invariant-loop-i g l = record {
  done : DoneBy l.spent (g.E.LineEngine.calls l.fn.engine) (g.E.LineEngine.calls l.engine) (Passes (board l.scene.clues.now l.scene.facts.now l.scene.picture.now) l.allowance l.self l.i);
  spent : AreFew l.allowance l.scene.facts.now l.i l.spent.evaluations;
  few : AreFew l.allowance l.scene.facts.now l.i (g.E.LineEngine.calls l.engine - g.E.LineEngine.calls l.fn.engine);
  calls : g.E.LineEngine.calls l.fn.engine ≤ g.E.LineEngine.calls l.engine;
  same_longest : g.E.LineEngine.longest l.engine ≡ g.E.LineEngine.longest l.fn.engine;
}

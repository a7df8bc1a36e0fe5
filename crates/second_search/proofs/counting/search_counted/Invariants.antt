use Rattle.std.proofs.Common.{◌≡◌, ◌<◌, ◌≤◌, ◌∷◌, length, suc}
use Rattle.picture.specs.LineSet.{name_count}
use Rattle.second_search.proofs.CountLemmas.{Counting}
use Rattle.second_search.proofs.DrawLemmas.{AreLooks}
use Rattle.second_search.proofs.KeepLemmas.{EachQuiet, IsReady}
use Rattle.second_search.proofs.WeightLemmas.{load}
use Rattle.second_search.proofs.counting.search_counted.Given as goal

abbrev pub invariant-loop-search : goal.invariant-loop-search
invariant-loop-search g l = record {
  counting : Counting l.book l.known l.fn.start.facts l.fn.start.allowance (l.search.trail.at_hand ∷ l.search.trail.behind) l.search.budget;
  ready : IsReady l.book l.known l.fn.start.lines l.fn.start.facts l.search.trail.at_hand l.search.due.lines l.search.due.top;
  rows : l.search.due.rows ≡ l.fn.start.lines;
  some : 0 < name_count l.search.due.lines;
  behind : EachQuiet l.book l.known l.fn.start.lines l.fn.start.facts l.search.trail.behind l.search.trail.cells;
  looks : AreLooks l.fn.start.allowance l.fn.start.facts (suc (length l.search.trail.behind)) l.search.budget.left (g.E.LineEngine.calls l.fn.engine) (g.E.LineEngine.calls l.engine);
  calls : g.E.LineEngine.calls l.fn.engine ≤ g.E.LineEngine.calls l.engine;
  same_longest : g.E.LineEngine.longest l.engine ≡ g.E.LineEngine.longest l.fn.engine;
}

abbrev pub decreases-loop-search : goal.decreases-loop-search
decreases-loop-search g l = load (l.search.trail.at_hand ∷ l.search.trail.behind)

use Rattle.second_search.specs.Through.{LeavesAlone}
use Rattle.second_search.proofs.part_search.facts_on.Given as goal

abbrev pub invariant-loop-row : goal.invariant-loop-row
invariant-loop-row l = LeavesAlone l.cells l.scene.picture.now l.scene.facts.now l.facts l.row

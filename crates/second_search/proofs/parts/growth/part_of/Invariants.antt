use Rattle.picture.specs.LineSet.{name_count}
use Rattle.second_search.specs.GrownParts.{IsGrown}
use Rattle.second_search.proofs.parts.growth.part_of.Given as goal

abbrev pub invariant-loop-line : goal.invariant-loop-line
invariant-loop-line l = IsGrown l.facts l.fn.cell.row l.fn.cell.col l.growth

abbrev pub decreases-loop-line : goal.decreases-loop-line
decreases-loop-line l = name_count l.growth.unvisited

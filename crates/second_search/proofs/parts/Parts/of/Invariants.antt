use Rattle.second_search.specs.GrownParts.{ArePartsAbove}
use Rattle.second_search.proofs.parts.Parts.of.Given as goal

abbrev pub invariant-loop-row : goal.invariant-loop-row
invariant-loop-row l = ArePartsAbove l.facts l.parts l.row

use Rattle.second_search.specs.CarriedParts.{NamesAlong}
use Rattle.second_search.proofs.carrying.are_named_along.Given as goal

abbrev pub invariant-loop-at : goal.invariant-loop-at
invariant-loop-at l = NamesAlong l.names l.cells l.axis l.at

use Rattle.second_search.specs.CarriedParts.{PutsOn}
use Rattle.second_search.proofs.carrying.put_on.Given as goal

abbrev pub invariant-loop-row : goal.invariant-loop-row
invariant-loop-row l = PutsOn l.cells l.other l.fn.picture l.picture l.row

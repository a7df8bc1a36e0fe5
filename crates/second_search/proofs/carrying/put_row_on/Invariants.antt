use Rattle.second_search.specs.CarriedParts.{PutsRowOn}
use Rattle.second_search.proofs.carrying.put_row_on.Given as goal

abbrev pub invariant-loop-col : goal.invariant-loop-col
invariant-loop-col l = PutsRowOn l.cells l.other l.fn.picture l.picture l.row l.col

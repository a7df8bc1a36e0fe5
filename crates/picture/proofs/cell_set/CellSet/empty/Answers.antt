use Rattle.std.proofs.Common.{refl}
use Rattle.picture.specs.CellSet.{no_cells}
use Rattle.picture.proofs.CellSetLemmas.{empty_is}
use Rattle.picture.proofs.CellSetLaws.{members}
use Rattle.picture.proofs.cell_set.CellSet.empty.Goals as goal

pub returns-clause-value : goal.returns-clause-value
unfolding no_cells
returns-clause-value c = refl

pub returns-clause-set : goal.returns-clause-set
returns-clause-set c = empty_is

pub returns-clause-none : goal.returns-clause-none
unfolding no_cells
returns-clause-none c = members.empty

pub invariant_of-result : goal.invariant_of-result
invariant_of-result c = empty_is

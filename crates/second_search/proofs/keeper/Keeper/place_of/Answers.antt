use Rattle.second_search.proofs.CarryLemmas.{has_a_cell, none_lacks, same_place}
use Rattle.second_search.proofs.KnownLaws.{same_cells_are_equal}
use Rattle.second_search.proofs.keeper.Keeper.place_of.Goals as goal

pub unreachable-requires : goal.unreachable-requires
unreachable-requires c =
    none_lacks c.args.facts.now c.args.self.now c.args.cells.now c.in-Some.cell.row c.in-Some.cell.col c.requires.parts c.requires.part c.in-Some.ensures.1.1 c.in-None-part_with.ensures

pub unreachable-requires-in-None : goal.unreachable-requires-in-None
unreachable-requires-in-None c = has_a_cell c.args.facts.now c.args.cells.now c.height.ensures.facts c.requires.part c.in-None.ensures

pub returns-clause-cells : goal.returns-clause-cells
returns-clause-cells c = same_place same_cells_are_equal c.args.facts.now c.args.self.now c.args.cells.now c.in-Some-part_with.i c.in-Some.cell.row c.in-Some.cell.col c.requires.parts c.requires.part
    c.in-Some-part_with.ensures.0 c.in-Some-part_with.ensures.1 c.in-Some.ensures.1.1

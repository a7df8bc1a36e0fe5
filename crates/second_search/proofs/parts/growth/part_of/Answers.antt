use Rattle.second_search.proofs.GrowLemmas.{grown_left, grown_whole}
use Rattle.second_search.proofs.parts.growth.part_of.Goals as goal

pub loop-line-init : goal.loop-line-init
loop-line-init c = c.start-growth.ensures

pub gather-requires-clause-has : goal.gather-requires-clause-has
gather-requires-clause-has c =
    let line = c.in-Some.line in
    let i = c.loop-line.invariant in
    i.inside line (i.reached line c.in-Some.ensures.1).0

pub leave-requires-clause-unvisited : goal.leave-requires-clause-unvisited
leave-requires-clause-unvisited c =
    let line = c.in-Some.line in
    rw c.gather.ensures.unvisited (c.loop-line.invariant.reached line c.in-Some.ensures.1).0

pub loop-line-preserved : goal.loop-line-preserved
loop-line-preserved c =
    let cell = c.args.cell in
    grown_left c.args.facts.now cell.row cell.col c.in-Some.line c.gather.new.self c.leave.new.self c.gather.ensures.open_cells c.leave.ensures.leaves
    (c.gather.ensures.grown cell.row cell.col c.loop-line.invariant)

pub returns-clause-members : goal.returns-clause-members
returns-clause-members c = grown_whole c.args.facts.now c.args.cell.row c.args.cell.col c.loop-line.growth c.loop-line.invariant c.in_default.ensures

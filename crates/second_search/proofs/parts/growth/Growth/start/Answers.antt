use Rattle.second_search.proofs.GrowLemmas.{grown_first}
use Rattle.second_search.proofs.parts.growth.Growth.start.Goals as goal

pub returns : goal.returns
returns c =
    grown_first c.args.facts.now c.args.cell.row c.args.cell.col (record { cells = c.empty.result; waiting = c.empty-2.result; unvisited = c.all_lines.result }) c.take_in.new.self
    c.height.ensures.facts c.requires.is_open c.all_lines.ensures.lines c.empty.ensures.none c.empty-2.ensures.none c.take_in.ensures

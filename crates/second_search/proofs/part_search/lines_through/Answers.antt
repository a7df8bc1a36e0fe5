use Rattle.std.proofs.Common.{refl}
use Rattle.second_search.proofs.AloneLemmas.{rows_put}
use Rattle.second_search.proofs.part_search.lines_through.Goals as goal

pub loop-row-preserved : goal.loop-row-preserved
loop-row-preserved c =
    let i = c.loop-row.invariant in
    record {
      lines = c.put_through.ensures.lines;
      through = rows_put c.args.cells.now c.args.facts.now c.loop-row.lines c.put_through.new.lines c.loop-row.row _ refl i.through c.put_through.ensures.puts;
    }

use Rattle.std.proofs.Common.{◌+◌, subst, sym, arith}
use Rattle.std.proofs.lemmas.Bool.{false≢true}
use Rattle.picture.specs.LineSet.{Lines}
use Rattle.fixpoint.specs.LineNames.{AreLinesOf}
use Rattle.second_search.specs.Through.{PutsRow}
use Rattle.second_search.proofs.AloneLemmas.{lines_more, row_put, row_same}
use Rattle.second_search.proofs.part_search.put_through.Goals as goal
use Rattle.second_search.proofs.part_search.put_through.Goals.{then-has, else-has}

pub loop-col-preserved : goal.loop-col-preserved
loop-col-preserved c =
    let i = c.loop-col.invariant in
    let old = c.loop-col.lines in
    let row = c.args.row in
    let col = c.loop-col.col in
    let P : Lines → Type 0 = λ x. record {
      lines : AreLinesOf c.args.facts.now x;
      puts : PutsRow c.args.cells.now row (col + 1) c.args.lines.now x;
    } in
    elim c.if-has.branch [
      | then-has w ↦ subst P (sym w.lines-is) (record {
        lines = lines_more c.args.facts.now old w.put_both.new.lines row col c.requires.in_rows (omega arith) i.lines w.put_both.ensures;
        puts = row_put c.args.cells.now c.args.lines.now old w.put_both.new.lines row col i.puts w.put_both.ensures;
      })
      | else-has w ↦ subst P (sym w.lines-is) (record {
        lines = i.lines;
        puts = row_same c.args.cells.now c.args.lines.now old row col i.puts (λ h. false≢true (w.if-has.ensures.value.1 h));
      })
    ]

use Rattle.std.proofs.Common.{ℕ}
use Rattle.picture.specs.Rows.{cell_at}
use Rattle.line_facts.specs.Masks.{IsOnly}
use Rattle.second_search.proofs.LookLemmas.{below_next}
use Rattle.second_search.proofs.looking.unsettled_in_row.Goals as goal

pub loop-col-preserved : goal.loop-col-preserved
loop-col-preserved c = below_next (λ i. (k : ℕ) × IsOnly (cell_at c.args.facts.now c.args.row i) k) c.loop-col.col c.loop-col.invariant (c.in-Some.field-0, c.in-Some.ensures)

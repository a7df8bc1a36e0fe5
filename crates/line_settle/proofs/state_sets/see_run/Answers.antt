use Rattle.line_settle.proofs.StateSetLemmas.{run_next}
use Rattle.line_settle.proofs.state_sets.see_run.Goals as goal
use Rattle.std.proofs.Common.{map}

pub returns : goal.returns
returns g c = λ pattern are cells.
    let bits = g.W.Word.bits in
    run_next pattern (map bits c.args.next.now) (map bits c.see_colour.new.seen)
    (bits c.states_between.result) c.args.colour c.args.start c.args.end c.states_between.ensures c.see_colour.ensures c.requires.in_order are cells

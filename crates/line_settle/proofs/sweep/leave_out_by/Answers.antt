use Rattle.std.proofs.Common.{◌≡◌, arith, length}
use Rattle.line_settle.specs.Patterns.{pattern_of}
use Rattle.line_settle.proofs.sweep.leave_out_by.Goals as goal

pub returns : goal.returns
returns g c = λ none.
    let pattern = pattern_of c.args.blocks.now in
    let are = c.of-sets.ensures.sets in
    let long : length c.args.left.now ≡ length c.sweep_drawn-before.new.left = omega arith in
    rw long (c.sweep_last.ensures c.args.left.now (c.sweep_drawn-before.ensures c.args.left.now c.sweep_first-first.ensures.swept) pattern are (c.note_behind-end.ensures.noted pattern are) none)

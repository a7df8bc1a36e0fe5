use Rattle.std.proofs.Common.{◌+◌, refl, length}
use Rattle.line_settle.specs.Patterns.{pattern_of}
use Rattle.line_settle.proofs.BlockLemmas.{no_room}
use Rattle.line_settle.proofs.SweepLemmas.{leaves_all, leaves_open, leaves_out}
use Rattle.line_settle.proofs.sweep.leave_out.Goals as goal

pub returns-then-are_open : goal.returns-then-are_open
returns-then-are_open c = leaves_open c.args.clue.now c.args.drawn.now c.args.left.now c.requires.forced (c.if-are_open.ensures.0 refl)

pub returns-then-not-has_room : goal.returns-then-not-has_room
returns-then-not-has_room c =
    let told = c.blocks-blocks.ensures in
    let long = no_room c.has_room.result (length (pattern_of c.blocks-blocks.result.now)) (length c.args.left.now + 1) c.if-not-has_room.true c.has_room.ensures.1 in
    leaves_all _ _ _ _ told.clue (c.fill.ensures.after (λ y h. h)) (rw told.blocks at long)

pub returns : goal.returns
returns c =
    let told = c.blocks-blocks.ensures in
    leaves_out _ _ _ _ told.clue c.requires.forced (rw told.blocks at c.leave_out_in_words.ensures)

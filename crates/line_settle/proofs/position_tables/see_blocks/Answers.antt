use Rattle.std.proofs.Common.{arith, length, map}
use Rattle.line_settle.proofs.PassLemmas.{none_yet, pass_block, pass_end}
use Rattle.line_settle.proofs.WordLemmas.{word_at}
use Rattle.line_settle.proofs.position_tables.see_blocks.Goals as goal

pub loop-j-init : goal.loop-j-init
loop-j-init g c = record { behind = rw c.low-from.ensures (none_yet c.args.blocks.now c.args.left.now (map g.W.Word.bits c.args.seen.now) c.requires.none_seen c.requires.fits) }

pub loop-j-preserved : goal.loop-j-preserved
loop-j-preserved g c =
    let bits = g.W.Word.bits in
    let allowed = c.args.allowed.now in
    let starting = c.args.starting.now in
    let waiting = c.args.waiting.now in
    let j = c.loop-j.j in
    let entered = c.behind_gap.ensures in
    let filled = c.fill_up-here.ensures in
    let laid = c.lay-laid.ensures in
    let background = word_at bits allowed 0 c.index-allowed-0.result (omega (arith, c.requires.sixteen)) c.index-allowed-0.is in
    let waits = word_at bits waiting j c.index-waiting-j.result (omega arith) c.index-waiting-j.is in
    let starts = word_at bits starting j c.index-starting-j.result (omega arith) c.index-starting-j.is in
    let stay = rw (c.or.ensures, c.and-stays.ensures, c.down.ensures, background, waits) at c.and.ensures in
    let begin = rw starts at c.and-in-loop-j.ensures in
    record {
      behind = pass_block c.args.blocks.now c.args.left.now (map bits allowed) (map bits starting) (map bits waiting) j (bits c.loop-j.from) (bits c.behind_gap.result) (bits c.fill_up-here.result)
          (bits c.lay-laid.result.cells) (bits c.lay-laid.result.ends) (map bits c.loop-j.seen) (map bits c.see_colour.new.seen)
          (map bits c.see_colour-in-loop-j.new.seen) c.meets.result c.requires.blocks_of_clue (omega arith) c.requires.allowed_is c.requires.marked c.meets.ensures c.loop-j.invariant.behind
          (record { none = λ e. rw (entered.none e); first = entered.first; one = λ e i h. rw (← background) (entered.one e i (omega (arith, c.requires.short))) })
          (record { first = filled.first; on = λ i h. rw (← background) (filled.on i (omega (arith, c.requires.short))) })
          (λ i k. rw (← stay) (c.see_colour.ensures i k))
          (λ i h. rw (← begin) (laid.cells i (omega (arith, c.requires.short))))
          (λ i h. rw (← begin) (laid.ends i (omega (arith, c.requires.short))))
          c.see_colour-in-loop-j.ensures;
    }

pub returns : goal.returns
returns g c =
    let bits = g.W.Word.bits in
    let allowed = c.args.allowed.now in
    let waiting = c.args.waiting.now in
    let filled = c.fill_up-here-2.ensures in
    let background = word_at bits allowed 0 c.index-allowed-0.result (omega (arith, c.requires.sixteen)) c.index-allowed-0.is in
    let waits = word_at bits waiting (length c.args.blocks.now) c.index-waiting-blocks.result (omega arith) c.index-waiting-blocks.is in
    let stay = rw (c.and-stays-2.ensures, c.down-2.ensures, background, waits) at c.and-2.ensures in
    pass_end c.args.blocks.now c.args.left.now (map bits allowed) (map bits c.args.starting.now) (map bits waiting) c.loop-j.j (bits c.loop-j.from) (bits c.fill_up-here-2.result)
    (map bits c.loop-j.seen) (map bits c.see_colour-2.new.seen) c.requires.blocks_of_clue (omega arith) c.requires.allowed_is c.requires.marked c.loop-j.invariant.behind
    (record { first = filled.first; on = λ i h. rw (← background) (filled.on i (omega (arith, c.requires.short))) })
    (λ i k. rw (← stay) (c.see_colour-2.ensures i k))

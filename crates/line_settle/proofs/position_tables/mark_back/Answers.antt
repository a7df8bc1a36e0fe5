use Rattle.std.proofs.Common.{ℕ, ◌-◌, ◌<◌, ◌≤◌, ◌∙◌, arith, length, map}
use Rattle.std.proofs.lemmas.List.{length-set, map-set, length-map}
use Rattle.clues.specs.Clue.{block, IsBlock}
use Rattle.line_settle.specs.Patterns.{pattern_of}
use Rattle.line_settle.specs.LaidBlocks.{IsBack, IsStart, state_before}
use Rattle.line_settle.proofs.BlockLemmas.{block_at}
use Rattle.line_settle.proofs.MarkLemmas.{mark_block, mark_end, end_stored, first_position}
use Rattle.line_settle.proofs.WordLemmas.{word_at, word_stored}
use Rattle.line_settle.proofs.position_tables.mark_back.Goals as goal

pub loop-j-init : goal.loop-j-init
loop-j-init g c =
    let bits = g.W.Word.bits in
    let blocks = c.args.blocks.now in
    let left = c.args.left.now in
    let allowed = c.args.allowed.now in
    let waiting = c.args.waiting.now in
    let later = bits c.fill_down-later.result in
    let background = word_at bits allowed 0 c.index-allowed-0.result (omega (arith, c.requires.sixteen)) c.index-allowed-0.is in
    let filled = rw background at (c.fill_down-later.ensures (bits c.index-allowed-0.result) c.write_spans.ensures.each) in
    let end = mark_end blocks left (map bits allowed) (bits c.place.result) later c.requires.blocks_of_clue c.requires.allowed_is c.place.ensures.each filled in
    let l = length-map waiting bits in
    record {
      later_is = end;
      starts = λ r h l. absurd (omega arith);
      waits = rw map-set (end_stored blocks left (map bits waiting) later c.requires.blocks_of_clue (omega (arith, l, c.requires.waiting_room)) end);
    }

pub loop-j-preserved : goal.loop-j-preserved
loop-j-preserved g c =
    let bits = g.W.Word.bits in
    let blocks = c.args.blocks.now in
    let left = c.args.left.now in
    let allowed = c.args.allowed.now in
    let j = c.loop-j.j - 1 in
    let kept = c.loop-j.invariant in
    let starts = c.starts_before-starts.result in
    let waits = c.fill_down-waits.result in
    let gap = c.before_gap-later.ensures in
    let back = bits c.index-allowed-0.result in
    let background = word_at bits allowed 0 c.index-allowed-0.result (omega (arith, c.requires.sixteen)) c.index-allowed-0.is in
    let B : ℕ → Type 0 = λ r. r < length blocks in
    let E : ℕ → Type 0 = λ r. r ≤ length blocks in
    let P : ℕ → ℕ → Type 0 = λ r v. IsStart (pattern_of blocks) left (state_before blocks r) v in
    let K : ℕ → ℕ → Type 0 = λ r v. IsBack (pattern_of blocks) left (state_before blocks r) v in
    let is_block : IsBlock (block_at blocks j) = c.requires.blocks_of_clue j (block 0 0) (omega arith) in
    let inside : c.from.result < length allowed = omega (arith, c.requires.sixteen, c.from.ensures, is_block.in_palette) in
    let cells = rw c.from.ensures at (word_at bits allowed c.from.result c.index-allowed-from.result inside c.index-allowed-from.is) in
    let here = mark_block blocks left (map bits allowed) c.loop-j.j j (bits c.loop-j.later) (bits starts) (bits waits) (bits c.before_gap-later.result) c.meets.result c.requires.blocks_of_clue
    (omega arith) (omega arith) c.requires.allowed_is c.meets.ensures kept.later_is (rw cells at c.starts_before-starts.ensures)
    (rw background at (c.fill_down-waits.ensures back c.write_spans.ensures.each)) (λ e. rw (gap.none e)) (λ e. rw background at (gap.one e)) in
    record {
      later_is = here.here_is;
      starts = word_stored bits P B c.loop-j.starting c.loop-j.j j starts (omega arith) (omega arith) here.starts_are kept.starts;
      waits = word_stored bits K E c.loop-j.waiting c.loop-j.j j waits (omega arith) (omega (arith, length-set c.args.waiting.now (length blocks) c.fill_down-later.result)) here.waits_are kept.waits;
    }

pub returns-clause-fits : goal.returns-clause-fits
returns-clause-fits g c = c.has_first.ensures ∙ first_position c.args.blocks.now c.args.left.now (g.W.Word.bits c.loop-j.later) c.loop-j.j c.loop-j-test.false c.loop-j.invariant.later_is

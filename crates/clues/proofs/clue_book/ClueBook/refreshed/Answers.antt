-- One more line has its clue.
use Rattle.std.proofs.Common.{◌+◌, ap, ◌∙◌}
use Rattle.std.proofs.lemmas.List.{length_push}
use Rattle.clues.proofs.RefreshedClues.{old_clues_more, new_clues_more}
use Rattle.clues.proofs.clue_book.ClueBook.refreshed.Goals as goal

pub loop-at-preserved : goal.loop-at-preserved
loop-at-preserved c =
    let so_far = c.loop-at.invariant in
    let clue = c.in_ok-refreshed_clue.field-0 in
    rw c.in_ok-push.ensures.items (record {
      count = length_push c.loop-at.clues.items clue ∙ ap (λ n. n + 1) so_far.count;
      copied = old_clues_more c.args.axis c.args.change.now c.args.self.now c.loop-at.clues.items clue c.loop-at.at so_far.count so_far.copied c.in_ok-refreshed_clue.ensures.copied;
      counted = new_clues_more c.args.axis c.args.change.now c.args.picture.now c.loop-at.clues.items clue c.loop-at.at so_far.count so_far.counted c.in_ok-refreshed_clue.ensures.counted;
    })

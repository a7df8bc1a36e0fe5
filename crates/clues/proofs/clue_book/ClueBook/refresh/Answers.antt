-- The copied clues are those of the old picture, and right for the new one.
use Rattle.std.proofs.Common.{◌∙◌}
use Rattle.clues.proofs.MovedLines.{clues_stand}
use Rattle.clues.proofs.RefreshedClues.{refreshed_book}
use Rattle.clues.proofs.clue_book.ClueBook.refresh.Goals as goal

pub returns-clause-value : goal.returns-clause-value
returns-clause-value c = λ old is follows.
    let rows = c.in_ok-rows.ensures in
    let columns = c.in_ok-columns.ensures in
    c.from_parts.ensures
    ∙ refreshed_book c.args.self.now c.args.picture.now c.args.change.now c.in_ok-rows.rows.items c.in_ok-columns.columns.items c.requires rows.count columns.count rows.copied columns.copied
    rows.counted columns.counted (rw is (clues_stand c.args.change.now old c.args.picture.now follows))

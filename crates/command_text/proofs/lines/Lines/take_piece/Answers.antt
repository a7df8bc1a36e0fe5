use Rattle.std.proofs.Common.{◌≡◌, ap, position, sym, ◌∙◌, rules}
use Rattle.command_text.specs.Lines.{is_feed}
use Rattle.command_text.proofs.LineLemmas.{piece_taken}
use Rattle.command_text.proofs.lines.Lines.take_piece.Goals as goal

pub returns-clause-piece : goal.returns-clause-piece
returns-clause-piece c =
    let at : position is_feed c.args.self.now.inbox ≡ c.feed_place-feed.result = ap (position is_feed) (sym c.as_slice-waiting.ensures) ∙ sym c.feed_place-feed.ensures in
    rw c.is_some-2.ensures
    (piece_taken c.args.self.now (record c.args.self.now { inbox = c.skip.new.self }) c.args.draft.now c.extend.new.self c.feed_place-feed.result at (search rules) (search rules))

use Rattle.std.proofs.Common.{◌≡◌}
use Rattle.cert_check.specs.Boards.{IsTallied}
use Rattle.cert_check.proofs.BoardLemmas.{IsSplitting}
use Rattle.cert_check.proofs.board.Board.split.Given as goal

abbrev pub invariant-loop-n : goal.invariant-loop-n
invariant-loop-n l = record {
  splitting : IsSplitting l.fn.self.at_hand l.fn.self.behind l.cell.row l.cell.col l.left l.n l.self.at_hand l.self.behind;
  tallied : IsTallied l.picture l.self;
  parts : l.self.parts ≡ l.fn.self.parts;
}

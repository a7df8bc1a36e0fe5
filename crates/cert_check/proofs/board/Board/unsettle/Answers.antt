use Rattle.std.proofs.Common.{ap, subst}
use Rattle.picture.specs.LineSet.{Lines, TakesOutName}
use Rattle.trail.specs.Through.{across}
use Rattle.cert_check.specs.Boards.{Boarded}
use Rattle.cert_check.proofs.board.Board.unsettle.Goals as goal

pub returns-clause-settled : goal.returns-clause-settled
returns-clause-settled c = (
  c.take_out.new.self,
  (
    subst (λ (l : Lines). TakesOutName l c.take_out.new.self (across c.args.cell.row)) (ap {B = Lines} (λ (b : Boarded). b.settled) c.self.view_is) c.take_out.ensures.members,
    c.take_out-2.ensures.members,
  ),
)

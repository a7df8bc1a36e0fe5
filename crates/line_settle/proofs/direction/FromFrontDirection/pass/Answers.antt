use Rattle.std.proofs.Common.{arith}
use Rattle.line_settle.specs.StateSets.{moves_of}
use Rattle.line_settle.proofs.StateSetLemmas.{forward_states}
use Rattle.line_settle.proofs.direction.FromFrontDirection.pass.Goals as goal

pub returns : goal.returns
returns g c = λ pattern mask before by is.
    rw (c.or.ensures, c.up.ensures, c.and.ensures, c.and-2.ensures)
    (forward_states g.W.Word.width pattern mask before (moves_of g.W.Word.bits c.args.moves) _ (omega (arith, g.met.W.Word.wide)) by is)

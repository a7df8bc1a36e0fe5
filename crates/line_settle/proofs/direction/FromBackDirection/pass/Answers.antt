use Rattle.line_settle.specs.StateSets.{moves_of}
use Rattle.line_settle.proofs.StateSetLemmas.{back_states}
use Rattle.line_settle.proofs.direction.FromBackDirection.pass.Goals as goal

pub returns : goal.returns
returns g c = λ pattern mask behind by is.
    rw (c.or.ensures, c.and.ensures, c.down.ensures, c.and-2.ensures)
    (back_states g.W.Word.width pattern mask behind (moves_of g.W.Word.bits c.args.moves) _ by is)

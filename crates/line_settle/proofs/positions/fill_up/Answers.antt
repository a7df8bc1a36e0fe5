use Rattle.std.proofs.Common.{arith}
use Rattle.line_settle.proofs.PositionLemmas.{risen_first, risen_on}
use Rattle.line_settle.proofs.positions.fill_up.Goals as goal

pub returns : goal.returns
returns g c = rw (c.or.ensures, c.xor-2.ensures, c.xor.ensures, c.plus-carried.ensures, c.and-begun.ensures) (record {
  first = risen_first g.W.Word.width _ _ (omega (arith, g.met.W.Word.wide));
  on = risen_on g.W.Word.width _ _;
})

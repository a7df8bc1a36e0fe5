use Rattle.std.proofs.Common.{arith}
use Rattle.std.proofs.lemmas.Bool.{false≢true}
use Rattle.second_search.proofs.CarryLemmas.{stands_there}
use Rattle.second_search.proofs.carrying.goes_through.Goals as goal

pub returns : goal.returns
returns c = (
  (λ f. absurd (false≢true f)),
  (λ t. absurd (stands_there c.args.cells.now c.args.facts.now c.args.line c.loop-i.i c.line_len-i-end.ensures.facts c.requires.inside c.requires.has
      (omega (arith, c.line_len-i-end.ensures.len)) c.loop-i.invariant t)),
)

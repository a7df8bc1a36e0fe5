use Rattle.std.proofs.Common.{arith, ap, bit_and}
use Rattle.std.specs.Int.{bit_not, w16}
use Rattle.line_facts.proofs.GridLemmas.{excludes_at}
use Rattle.line_facts.proofs.facts.Facts.exclude.Goals as goal

pub returns : goal.returns
returns c =
    let colours = c.args.colours in
    excludes_at c.args.self.now c.set_left.new.self c.args.row c.args.col _ colours c.left-left.ensures.facts c.requires.in_rows c.requires.in_columns (omega arith)
    (ap (λ m. bit_and m (bit_not w16 colours)) c.left-left.ensures.value) c.set_left.ensures

use Rattle.std.proofs.Common.{◌∙◌, ap}
use Rattle.picture.specs.Document.{rows_shown}
use Rattle.picture.proofs.OrderLemmas.{same_shown}
use Rattle.picture.proofs.document.Document.ordered.Goals as goal

pub returns-clause-shown : goal.returns-clause-shown
returns-clause-shown c =
    ap (rows_shown c.renumbered.new.palette.triples) c.in_ok-picture.ensures.rows
    ∙ same_shown _ c.renumbered.new.palette c.args.self.now.palette.triples c.args.self.now.picture c.in_ok-picture.ensures.palette

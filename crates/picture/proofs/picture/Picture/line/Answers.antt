use Rattle.std.proofs.Common.{◌*◌, ◌∙◌, ap}
use Rattle.picture.specs.Line.{spaced}
use Rattle.picture.proofs.FlatLemmas.{facts, row_of_picture, column_of_picture}
use Rattle.picture.proofs.picture.Picture.line.Goals as goal

pub returns-in-Across-clause-value : goal.returns-in-Across-clause-value
returns-in-Across-clause-value c =
    let p = c.self.inside in
    c.new.ensures ∙ ap (λ cells. spaced cells (c.args.line.at * p.width) 1 p.width) c.deref.ensures.value
    ∙ row_of_picture p.height p.width p.cells.items c.args.self.now c.args.line c.self.view_is c.self.invariant c.in-Across.is c.requires

pub returns-in-Down-clause-value : goal.returns-in-Down-clause-value
returns-in-Down-clause-value c =
    let p = c.self.inside in
    c.new-in-Down.ensures ∙ ap (λ cells. spaced cells c.args.line.at p.width p.height) c.deref-in-Down.ensures.value
    ∙ column_of_picture p.height p.width p.cells.items c.args.self.now c.args.line c.self.view_is c.self.invariant c.in-Down.is c.requires

pub returns-in-Down-clause-picture : goal.returns-in-Down-clause-picture
returns-in-Down-clause-picture c = (facts _ _ _ _ c.self.view_is c.self.invariant).picture

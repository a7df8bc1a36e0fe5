use Rattle.std.proofs.Common.{◌∙◌, ap, arith}
use Rattle.picture.specs.Rows.{with_cell}
use Rattle.picture.proofs.FlatLaws.{place_inside, rows_of-set}
use Rattle.line_facts.proofs.FactLemmas.{known}
use Rattle.line_facts.proofs.facts.Facts.set_left.Goals as goal

pub index_mut-requires : goal.index_mut-requires
index_mut-requires c =
    let f = c.self.inside in
    let k = known _ _ _ _ c.self.view_is c.self.invariant in
    let inside = place_inside f.height f.width c.args.row c.args.col (omega arith) (omega arith) in
    omega (arith, f.masks.ok.0)

pub returns : goal.returns
returns c =
    let f = c.self.inside in
    let k = known _ _ _ _ c.self.view_is c.self.invariant in
    rows_of-set f.height f.width f.masks.items c.args.row c.args.col c.args.mask (omega arith) (omega arith) ∙ ap (λ rows. with_cell rows c.args.row c.args.col c.args.mask) c.self.view_is

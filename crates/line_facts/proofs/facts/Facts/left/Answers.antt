use Rattle.std.proofs.Common.{◌∙◌, sym, arith}
use Rattle.std.proofs.lemmas.List.{get_or_read}
use Rattle.line_facts.proofs.FactLemmas.{known}
use Rattle.line_facts.proofs.facts.Facts.left.Goals as goal
use Rattle.picture.proofs.FlatLaws.{place_inside}

pub index-requires : goal.index-requires
index-requires c =
    let f = c.self.inside in
    let k = known _ _ _ _ c.self.view_is c.self.invariant in
    let inside = place_inside f.height f.width c.args.row c.args.col (omega arith) (omega arith) in
    omega (arith, f.masks.ok.0)

pub returns-clause-value : goal.returns-clause-value
returns-clause-value c =
    let f = c.self.inside in
    let k = known _ _ _ _ c.self.view_is c.self.invariant in
    let inside = place_inside f.height f.width c.args.row c.args.col (omega arith) (omega arith) in
    get_or_read f.masks.items _ _ (omega arith) c.index.ensures 0 ∙ sym (k.cell c.args.row c.args.col (omega arith) (omega arith))

pub returns-clause-facts : goal.returns-clause-facts
returns-clause-facts c = (known _ _ _ _ c.self.view_is c.self.invariant).facts

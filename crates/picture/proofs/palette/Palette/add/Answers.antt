use Rattle.std.proofs.Common.{sym, ◌∙◌, ap, inl, arith}
use Rattle.picture.specs.Palette.{add_fault}
use Rattle.picture.proofs.PaletteLemmas.{stands_twice, is_over}
use Rattle.picture.proofs.palette.Palette.add.Goals as goal

pub returns-then-contains-clause-fault : goal.returns-then-contains-clause-fault
returns-then-contains-clause-fault c =
    let p = c.self.inside in
    inl (ap (λ colours. add_fault colours c.args.rgb) (sym c.self.view_is)
    ∙ stands_twice (record { maxval = p.maxval; triples = p.colours.keys }) c.args.rgb (omega (arith, c.len.ensures.len)) (sym c.if-contains.ensures))

pub returns-then-not-within-clause-fault : goal.returns-then-not-within-clause-fault
returns-then-not-within-clause-fault c =
    let p = c.self.inside in
    inl (ap (λ colours. add_fault colours c.args.rgb) (sym c.self.view_is)
    ∙ is_over (record { maxval = p.maxval; triples = p.colours.keys }) c.args.rgb (omega (arith, c.len.ensures.len)) (sym c.if-contains.ensures) (sym c.if-not-within.ensures))

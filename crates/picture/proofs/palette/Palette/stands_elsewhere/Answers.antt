use Rattle.std.proofs.Common.{◌<◌, length, subst, sym, ◌∙◌, ap}
use Rattle.picture.specs.Palette.{stands_elsewhere}
use Rattle.picture.proofs.PaletteLemmas.{stands_if_differs, stands_if_same}
use Rattle.picture.proofs.palette.Palette.stands_elsewhere.Goals as goal

pub returns-then-ne-clause-value : goal.returns-then-ne-clause-value
returns-then-ne-clause-value c =
    c.contains.ensures ∙ stands_if_differs c.args.rgb _ c.self.inside.colours.keys _ c.args.number _ c.as_slice.ensures.keys
    (subst (λ colours. c.args.number < length colours.triples) (sym c.self.view_is) c.requires) c.ne.ensures c.if-ne.true
    ∙ ap (λ colours. stands_elsewhere colours.triples c.args.number c.args.rgb) c.self.view_is

pub returns-else-ne-clause-value : goal.returns-else-ne-clause-value
returns-else-ne-clause-value c =
    stands_if_same c.args.rgb _ c.self.inside.colours.keys _ c.args.number _ c.as_slice.ensures.keys
    (subst (λ colours. c.args.number < length colours.triples) (sym c.self.view_is) c.requires) c.ne.ensures c.self.invariant.distinct c.if-ne.false
    ∙ ap (λ colours. stands_elsewhere colours.triples c.args.number c.args.rgb) c.self.view_is

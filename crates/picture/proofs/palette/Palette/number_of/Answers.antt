use Rattle.std.proofs.Common.{◌∙◌, ap}
use Rattle.picture.specs.Palette.{place_of}
use Rattle.picture.proofs.PaletteLemmas.{position-place_of}
use Rattle.picture.proofs.palette.Palette.number_of.Goals as goal

pub returns-in_err-index-clause-value : goal.returns-in_err-index-clause-value
returns-in_err-index-clause-value c =
    c.from_residual.ensures ∙ c.in_err-index.ensures.index ∙ position-place_of c.args.rgb c.self.inside.colours.keys ∙ ap (λ colours. place_of c.args.rgb colours.triples) c.self.view_is

pub returns-clause-value : goal.returns-clause-value
returns-clause-value c =
    c.in_ok-index.ensures.index ∙ position-place_of c.args.rgb c.self.inside.colours.keys ∙ ap (λ colours. place_of c.args.rgb colours.triples) c.self.view_is

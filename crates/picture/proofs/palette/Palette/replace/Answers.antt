use Rattle.std.proofs.Common.{◌≡◌, ◌<◌, true, false, length, set, subst, ap, ◌∙◌, sym}
use Rattle.std.specs.List.{list_any}
use Rattle.picture.specs.Palette.{rgb_eq, fits, with_triple}
use Rattle.picture.proofs.PaletteLemmas.{replaced, swapped_in}
use Rattle.picture.proofs.palette.Palette.replace.Goals as goal

changed : (c : goal.After-swap_remove_index) → c.swap_remove_index.new.self.keys ≡ set c.self.inside.colours.keys c.args.number c.args.rgb
changed c =
    swapped_in c.self.inside.colours.keys c.insert.new.self.keys _ c.args.number c.args.rgb c.swap_remove_index.result (subst (λ colours. c.args.number < length colours.triples)
    (sym c.self.view_is) c.requires.in_palette) (subst (λ colours. list_any (rgb_eq c.args.rgb) colours.triples ≡ false) (sym c.self.view_is) c.requires.is_new)
    c.in_ok-insert.ensures.keys c.swap_remove_index.ensures.key c.swap_remove_index.ensures.keys

pub invariant_of-self-2 : goal.invariant_of-self-2
invariant_of-self-2 c = replaced _ _ _ c.args.number c.args.rgb c.self.invariant (subst (λ colours. fits colours.maxval c.args.rgb ≡ true) (sym c.self.view_is) c.requires.in_range)
    (changed c) c.swap_remove_index.ensures.unique

pub returns-clause-ok : goal.returns-clause-ok
returns-clause-ok c = ap (λ triples. record { maxval = c.self.inside.maxval; triples = triples }) (changed c) ∙ ap (λ colours. with_triple colours c.args.number c.args.rgb) c.self.view_is

use Rattle.std.proofs.Common.{◌∙◌, sym}
use Rattle.std.proofs.lemmas.Bool.{false≢true}
use Rattle.picture.proofs.PaletteLemmas.{stands_nowhere, kept_over}
use Rattle.picture.proofs.RoomLemmas.{own_nowhere}
use Rattle.picture.proofs.palette.Palette.set.Goals as goal

pub returns-then-stands_elsewhere-clause-same : goal.returns-then-stands_elsewhere-clause-same
returns-then-stands_elsewhere-clause-same c some own =
    absurd
    (false≢true (sym (own_nowhere c.args.self.now c.args.number c.args.rgb c.stands_elsewhere.ensures.palette c.requires own) ∙ sym c.stands_elsewhere.ensures.value ∙ c.if-stands_elsewhere.true))

pub returns-then-eq-clause-ok : goal.returns-then-eq-clause-ok
returns-then-eq-clause-ok c = kept_over c.args.self.now c.args.number c.args.rgb c.rgb.result _ c.rgb.ensures.stands c.eq.ensures c.if-eq.true

pub replace-requires-clause-is_new : goal.replace-requires-clause-is_new
replace-requires-clause-is_new c =
    stands_nowhere c.args.rgb c.rgb.result _ c.args.number _ c.rgb.ensures.stands c.eq.ensures c.if-eq.false (sym c.stands_elsewhere.ensures.value ∙ c.if-stands_elsewhere.false)

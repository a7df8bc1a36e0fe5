use Rattle.std.proofs.Common.{sym, subst, ◌∙◌, arith, take}
use Rattle.line_facts.specs.FactSets.{HoldsLine}
use Rattle.line_facts.proofs.ChangeLemmas.{all_cross, all_same, unchanged, within_side}
use Rattle.line_facts.proofs.forcing.write_changes.Goals as goal
use Rattle.line_facts.proofs.forcing.write_changes.Goals.{then-places-ne0, else-places-ne0}

pub along-requires : goal.along-requires
along-requires c = within_side c.args.left.now c.args.masks.now c.places_apart-places.result c.args.cells c.requires.same_behind c.places_apart-places.ensures c.requires.room

pub returns-clause-holds : goal.returns-clause-holds
returns-clause-holds c =
    let masks = take c.args.cells c.args.masks.now in
    elim c.if-places-ne0.branch [
      | then-places-ne0 w ↦ subst (λ f. HoldsLine c.args.line c.args.facts.now f masks) (sym w.facts-is) w.write_line.ensures
      | else-places-ne0 w ↦
          let same =
          all_same c.args.left.now c.args.masks.now c.places_apart-places.result c.args.cells c.requires.same_behind c.places_apart-places.ensures c.requires.same_length w.if-places-ne0.false in
          subst (λ f. HoldsLine c.args.line c.args.facts.now f masks) (sym w.facts-is) (unchanged c.args.line c.args.facts.now masks (sym c.requires.old ∙ same))
    ]

pub returns-clause-changed : goal.returns-clause-changed
returns-clause-changed c = all_cross c.args.left.now c.args.masks.now c.places_apart-places.result c.args.cells c.requires.same_behind c.places_apart-places.ensures c.args.line c.crossing.result
    c.along.result (omega (arith, c.requires.room, c.requires.whole)) c.crossing.ensures c.along.ensures.members

use Rattle.retract.proofs.KeepLemmas.{kept_length}
use Rattle.retract.proofs.standing.standing_line.Goals as goal

pub stay_in_place-requires : goal.stay_in_place-requires
stay_in_place-requires c = rw c.as_slice-premises.ensures.value c.requires.premises

pub stay_in_place-requires-then-stay_in_place : goal.stay_in_place-requires-then-stay_in_place
stay_in_place-requires-then-stay_in_place c = rw c.as_slice.ensures.value c.requires.drawn

pub are_known-requires-clause-inside : goal.are_known-requires-clause-inside
are_known-requires-clause-inside c =
    let length_is = kept_length c.args.change.now.moves c.args.step.now.line c.in_ok-to.to c.args.known.now c.height.ensures.facts c.requires.known c.in_ok-to.ensures.image c.in_ok-to.ensures.inside
    (c.keeps_length.ensures.0 c.if-keeps_length.true) in
    rw (length_is, c.as_slice-premises.ensures.value) c.requires.premises

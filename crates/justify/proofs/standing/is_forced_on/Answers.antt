use Rattle.std.proofs.Common.{◌≡◌, length, ◌∙◌, arith}
use Rattle.justify.proofs.StandingLemmas.{forced_is, mentions_same}
use Rattle.justify.proofs.standing.is_forced_on.Goals as goal

pub leave_rest-requires-clause-inside : goal.leave_rest-requires-clause-inside
leave_rest-requires-clause-inside g c =
    mentions_same _ _ _ c.as_slice.ensures.value (λ i m. let l = c.requires.premises_inside i m in omega arith)

pub has_none-requires : goal.has_none-requires
has_none-requires g c =
    let room : length c.narrow.new.out ≡ c.args.cells = c.narrow.auto.out ∙ c.requires.out_room in
    mentions_same _ _ _ c.as_slice-2.ensures.value (λ i m. let l = c.requires.drawn_inside i m in omega arith)

pub returns-clause-forced : goal.returns-clause-forced
returns-clause-forced g c =
    let clue = c.args.clue.now in
    let step = c.args.step.now in
    let left = c.leave_rest.new.left in
    let out = c.narrow.new.out in
    let len : length left ≡ c.args.cells = c.leave_rest.auto.left ∙ c.requires.left_room in
    rw (← len) (forced_is clue step left out c.narrow.result (rw (← c.as_slice.ensures.value) c.leave_rest.ensures) c.narrow.ensures.narrows c.has_none.result
    (rw (← c.as_slice-2.ensures.value) c.has_none.ensures))

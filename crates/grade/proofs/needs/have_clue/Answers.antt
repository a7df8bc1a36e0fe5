-- Where the line ends, it has the clue when no block is owed after the last run.
use Rattle.std.proofs.Common.{◌≡◌, length}
use Rattle.std.proofs.lemmas.Bool.Decides.{Decides-at, Decides-like, Decides-eqb}
use Rattle.clues.specs.Clue.{clue_of}
use Rattle.clues.proofs.RunLaws.{last_run-matches}
use Rattle.grade.specs.Needs.{known_colours}
use Rattle.grade.proofs.StandLemmas.{colours_past}
use Rattle.grade.proofs.needs.have_clue.Goals as goal

pub returns : goal.returns
returns c =
    let run = c.loop-mask.run in
    let rest = c.in-Some-without_run.rest.now in
    let ended = last_run-matches run.len run.colour c.loop-mask.owed.now rest c.loop-mask.invariant.some c.in-Some-without_run.ensures.some in
    let decided = rw (colours_past c.args.masks.now c.loop-mask.mask-index c.loop-mask-test.false) at c.loop-mask.invariant.decided in
    Decides-at c.is_empty.result _ c.is_empty.ensures
    (Decides-like _ (λ (e : length rest ≡ 0). decided.0 (ended.1 e)) (λ (e : clue_of (known_colours c.args.masks.now) ≡ c.args.blocks.now). ended.0 (decided.1 e)) (Decides-eqb (length rest) 0))

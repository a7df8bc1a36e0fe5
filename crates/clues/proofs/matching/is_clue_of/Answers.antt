-- Where the line ends, it has the clue when no block is left after the last run.
use Rattle.std.proofs.Common.{◌≡◌, length}
use Rattle.std.proofs.lemmas.Bool.Decides.{Decides-at, Decides-like, Decides-eqb}
use Rattle.clues.specs.Clue.{clue_of}
use Rattle.clues.proofs.RunLaws.{last_run-matches}
use Rattle.clues.proofs.matching.is_clue_of.Goals as goal

pub returns : goal.returns
returns c =
    let run = c.loop-colour.run in
    let rest = c.in-Some-without_run-2.rest.now in
    let ended = last_run-matches run.len run.colour c.loop-colour.left.now rest c.loop-colour.invariant.some c.in-Some-without_run-2.ensures.some in
    let decided = rw c.in-None.ensures.steps.0 at c.loop-colour.invariant.decided in
    Decides-at c.is_empty.result _ c.is_empty.ensures
    (Decides-like _ (λ (e : length rest ≡ 0). decided.0 (ended.1 e)) (λ (e : clue_of c.args.line ≡ c.args.clue.now). ended.0 (decided.1 e)) (Decides-eqb (length rest) 0))

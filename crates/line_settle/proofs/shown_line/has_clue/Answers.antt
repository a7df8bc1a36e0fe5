-- Where the line ends, it has the clue when no block is owed after the last run.
use Rattle.std.proofs.Common.{◌≡◌, length}
use Rattle.std.proofs.lemmas.Bool.Decides.{Decides-at, Decides-like, Decides-eqb}
use Rattle.clues.specs.Clue.{clue_of}
use Rattle.line_settle.specs.Shown.{lowest_colours}
use Rattle.clues.proofs.RunLaws.{last_run-matches}
use Rattle.line_settle.proofs.ShownLemmas.{colours_past}
use Rattle.line_settle.proofs.shown_line.has_clue.Goals as goal

pub returns : goal.returns
returns c =
    let run = c.loop-mask.run in
    let rest = c.in-Some-without_run.rest.now in
    let ended = last_run-matches run.len run.colour c.loop-mask.owed.now rest c.loop-mask.invariant.some c.in-Some-without_run.ensures.some in
    let decided = rw (colours_past c.args.left.now c.loop-mask.mask-index c.loop-mask-test.false) at c.loop-mask.invariant.decided in
    Decides-at c.is_empty.result _ c.is_empty.ensures
    (Decides-like _ (λ (e : length rest ≡ 0). decided.0 (ended.1 e)) (λ (e : clue_of (lowest_colours c.args.left.now) ≡ c.args.blocks.now). ended.0 (decided.1 e)) (Decides-eqb (length rest) 0))

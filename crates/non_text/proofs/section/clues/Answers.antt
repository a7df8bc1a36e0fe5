use Rattle.std.proofs.Common.{take}
use Rattle.std.proofs.lemmas.Result.{err_from_is_err_and}
use Rattle.non_text.specs.ClueLine.{clues_in}
use Rattle.non_text.specs.Section.{kept_in}
use Rattle.non_text.proofs.SectionLemmas.{clues_left_stop}
use Rattle.non_text.proofs.section.clues.Goals as goal

pub returns-in_err-clue : goal.returns-in_err-clue
returns-in_err-clue c =
    let p = err_from_is_err_and c.from_residual.result c.from_residual.ensures.1 in
    rw (p.1, p.2)
    (clues_left_stop c.args.cells c.loop.clues.items c.args.n c.loop.counter c.in-Some.line.now (kept_in c.args.leaves_blanks c.in-Some.behind.now) (kept_in c.args.leaves_blanks c.loop.rest.now)
    c.in_err-clue.field-0.0 (clues_in c.args.cells (take c.args.n (kept_in c.args.leaves_blanks c.args.text.now))) c.loop-test.true c.in-Some.ensures.0 c.in_err-clue.ensures c.loop.invariant)

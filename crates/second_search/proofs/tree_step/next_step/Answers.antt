use Rattle.std.proofs.Common.{refl}
use Rattle.std.proofs.lemmas.Bool.{false≢true}
use Rattle.second_search.specs.Through.{across}
use Rattle.second_search.proofs.TreeLemmas.{compare_continues, dead_continues, none_dead}
use Rattle.second_search.proofs.KnownLaws.{books_are_their_clues, clues_are_of_lines}
use Rattle.second_search.proofs.tree_step.next_step.Goals as goal

pub first_unsettled-requires-clause-others : goal.first_unsettled-requires-clause-others
first_unsettled-requires-clause-others g c = λ row col out h l. absurd (out ((c.all_lines.ensures.lines (across row)).1 h))

pub returns-then-has_clues-clause-continues : goal.returns-then-has_clues-clause-continues
returns-then-has_clues-clause-continues g c =
    let s = c.args.scene.now in
    compare_continues s.clues.now s.picture.now c.args.facts.now c.in_ok-shown.shown c.compared.result c.height.ensures.facts c.in_ok-shown.ensures (c.if-has_clues.ensures.0 refl) c.compared.ensures

pub returns-clause-continues : goal.returns-clause-continues
returns-clause-continues g c =
    let s = c.args.scene.now in
    dead_continues s.clues.now s.picture.now c.args.facts.now c.in-Some-dead.line c.line_number.result
    (rw c.in-Some-dead.is at c.in_ok-dead.ensures.dead) c.line_number.ensures.axis c.line_number.ensures.number

pub unreachable-requires : goal.unreachable-requires
unreachable-requires g c =
    let s = c.args.scene.now in
    false≢true (c.if-has_clues.ensures.1 (none_dead clues_are_of_lines books_are_their_clues s.clues.now
    (g.E.LineEngine.longest c.args.engine.now) c.args.facts.now c.in_ok-shown.shown c.height.ensures.facts c.requires (rw c.in-None.is at c.in_ok-dead.ensures.dead) c.in_ok-shown.ensures))

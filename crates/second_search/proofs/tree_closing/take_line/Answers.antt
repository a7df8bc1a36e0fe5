use Rattle.std.proofs.Common.{refl}
use Rattle.std.proofs.lemmas.Bool.{false≢true}
use Rattle.second_search.proofs.TreeLemmas.{forced_settles, quiet_settles}
use Rattle.second_search.proofs.tree_closing.take_line.Goals as goal

pub returns-then-is_empty-clause-settles : goal.returns-then-is_empty-clause-settles
returns-then-is_empty-clause-settles g c =
    let clues = c.args.clues.now in
    let forced = c.force_crossing-forced in
    rw c.in-Narrowed.is (quiet_settles clues c.clue.result.now c.args.line c.args.facts.now forced.new.facts forced.result.changed c.args.lines.now
    (rw c.in-Narrowed.is at forced.ensures.gains) forced.ensures.changed (c.if-is_empty.ensures.value.0 refl))

pub returns-in_ok-add-in-Narrowed-clause-settles :
    goal.returns-in_ok-add-in-Narrowed-clause-settles
returns-in_ok-add-in-Narrowed-clause-settles g c =
    let clues = c.args.clues.now in
    let forced = c.force_crossing-forced in
    let lines = c.add-in-Narrowed.new.self in
    let number = c.line_number-in-Narrowed in
    rw c.in-Narrowed.is (forced_settles clues c.clue.result.now c.args.line number.result c.args.facts.now forced.new.facts forced.result.changed c.args.lines.now lines c.requires.line
    c.clue.ensures.value (rw c.in-Narrowed.is at forced.ensures.gains) forced.ensures.changed
    (λ e. false≢true (c.if-is_empty.ensures.value.1 e)) number.ensures.axis number.ensures.number c.in_ok-add-in-Narrowed.ensures)

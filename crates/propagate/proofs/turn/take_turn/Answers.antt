use Rattle.std.proofs.Common.{◌<◌, length, arith}
use Rattle.picture.specs.Rows.{line_of}
use Rattle.justify.proofs.LawLemmas.{new_follow}
use Rattle.propagate.proofs.TurnLemmas.{turn_for_nothing, turn_for_step}
use Rattle.propagate.proofs.turn.take_turn.Goals as goal

pub crossing_drawn-changed-requires : goal.crossing_drawn-changed-requires
crossing_drawn-changed-requires c i m =
    let new = rw c.in-Ok-Some.field-0-is at (rw c.in-Ok-Some.is at c.requires.made.1) in
    let inside : i < length (line_of c.args.book.now.facts c.args.line) = new.drawn_inside i m in
    let len = rw c.facts.ensures.value at c.line_len.ensures.len in
    omega arith

pub add_step-requires : goal.add_step-requires
add_step-requires c =
    let new = rw c.in-Ok-Some.field-0-is at (rw c.in-Ok-Some.is at c.requires.made.1) in
    new_follow.can_add c.args.book.now c.requires.made.0 c.args.line c.in-Ok-Some.step c.facts.ensures.account c.requires.line new

pub returns-in-Ok-None-clause-comes_to : goal.returns-in-Ok-None-clause-comes_to
returns-in-Ok-None-clause-comes_to c clues is =
    let nothing = rw c.in-Ok-None.field-0-is at (rw c.in-Ok-None.is at is.makes) in
    turn_for_nothing clues c.args.line c.args.book.now c.empty.result is.derivation nothing c.empty.ensures.none c.empty.ensures.count

pub returns-in_ok-add_step-in-Ok-Some-clause-comes_to :
    goal.returns-in_ok-add_step-in-Ok-Some-clause-comes_to
returns-in_ok-add_step-in-Ok-Some-clause-comes_to c clues is =
    let new = rw c.in-Ok-Some.field-0-is at (rw c.in-Ok-Some.is at is.makes) in
    turn_for_step clues c.args.line c.args.book.now c.add_step.new.self c.in-Ok-Some.step c.crossing_drawn-changed.result
    c.facts.ensures.account is.derivation c.requires.line new c.in_ok-add_step-in-Ok-Some.ensures.ok c.crossing_drawn-changed.ensures.premises c.crossing_drawn-changed.ensures.names
    c.crossing_drawn-changed.ensures.few

use Rattle.grade.proofs.TurnLemmas.{found_first, found_second, found_third}
use Rattle.grade.proofs.turn.Turn.next_waiting.Goals as goal

pub returns-in-Some : goal.returns-in-Some
returns-in-Some c = found_first c.args.facts.now c.args.due.now c.args.self c.height.ensures.facts c.requires.lines c.requires.line c.in-Some.turn c.in-Some.ensures

pub returns-in-Some-along : goal.returns-in-Some-along
returns-in-Some-along c =
    found_second c.args.facts.now c.args.due.now c.args.self c.height.ensures.facts c.requires.lines c.requires.line c.over-over.result c.in-Some-along.turn c.over-over.ensures
    c.in_default.ensures c.in-Some-along.ensures

pub returns : goal.returns
returns c =
    found_third c.args.facts.now c.args.due.now c.args.self c.height.ensures.facts c.requires.lines c.requires.line c.over-over.result c.over.result c.along-3.result c.over-over.ensures
    c.over.ensures c.in_default.ensures c.in_default-along.ensures c.along-3.ensures

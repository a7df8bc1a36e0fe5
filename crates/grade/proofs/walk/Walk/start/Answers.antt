use Rattle.std.proofs.Common.{ap, arith}
use Rattle.grade.specs.declared.turn.Turn.{Turn}
use Rattle.fixpoint.proofs.LeftLaws.{little_left}
use Rattle.grade.proofs.walk.Walk.start.Goals as goal

pub returns-clause-can : goal.returns-clause-can
returns-clause-can c =
    let few = little_left c.args.facts.now c.all_lines.result c.height.ensures.facts c.all_lines.ensures.count in
    let round = ap (λ (t : Turn). t.round) c.first.ensures in
    record {
      lines = λ line has. (c.all_lines.ensures.lines line).0 has;
      has_turn = rw c.first.ensures c.height.ensures.facts.has_row;
      room = omega (arith, few, round);
    }

pub returns-clause-few : goal.returns-clause-few
returns-clause-few c = little_left c.args.facts.now c.all_lines.result c.height.ensures.facts c.all_lines.ensures.count

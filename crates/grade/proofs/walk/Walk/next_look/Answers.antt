use Rattle.std.proofs.Common.{refl, arith}
use Rattle.std.proofs.lemmas.Bool.{false≢true}
use Rattle.fixpoint.proofs.NameLaws.{take_counts}
use Rattle.grade.proofs.WalkLemmas.{about_to_look, passes_closed, run_ends}
use Rattle.grade.proofs.walk.Walk.next_look.Goals as goal

pub returns-then-has_open_cell-clause-comes : goal.returns-then-has_open_cell-clause-comes
returns-then-has_open_cell-clause-comes c = λ clues start looks w.
    let i = c.loop-turn.invariant in
    about_to_look clues start c.args.facts.now looks c.loop-turn.self (record { due = c.take_out.new.self; turn = c.next-self.result }) c.in-Some.turn c.height.ensures.facts i.can
    (i.walks clues start looks w) c.in-Some.ensures c.take_out.ensures.members c.next-self.ensures.next (c.if-has_open_cell.ensures.0 refl)

pub loop-turn-preserved : goal.loop-turn-preserved
loop-turn-preserved c =
    let i = c.loop-turn.invariant in
    let n = c.in-Some.ensures in
    let fewer = take_counts c.loop-turn.self.due c.take_out.new.self c.in-Some.turn.line n.waits c.take_out.ensures.members in
    record {
      can = record {
        lines = λ line h. i.can.lines line ((c.take_out.ensures.members line).0 h).0;
        has_turn = c.next-self.ensures.line;
        room = omega (arith, i.can.room, fewer, n.round, c.next-self.ensures.round);
      };
      walks = λ clues start looks w.
          passes_closed clues start c.args.facts.now looks c.loop-turn.self (record { due = c.take_out.new.self; turn = c.next-self.result }) c.in-Some.turn c.height.ensures.facts i.can
          (i.walks clues start looks w) n c.take_out.ensures.members c.next-self.ensures.next (λ o. false≢true (c.if-has_open_cell.ensures.1 o));
      fewer = omega (arith, i.fewer, fewer);
    }

pub returns-clause-comes : goal.returns-clause-comes
returns-clause-comes c = λ clues start looks w. run_ends clues start c.args.facts.now looks c.loop-turn.self (c.loop-turn.invariant.walks clues start looks w) c.in_default.ensures

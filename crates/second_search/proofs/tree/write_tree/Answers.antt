use Rattle.std.proofs.Common.{◌∙◌, refl, arith}
use Rattle.second_search.proofs.KeepLemmas.{can_close_like}
use Rattle.second_search.proofs.TreeLemmas.{ends_said, found_said, goes_said, said_lighter, shape_said, starts_said, tree_decides}
use Rattle.second_search.proofs.UntilLemmas.{few_said}
use Rattle.second_search.proofs.KnownLaws.{closing_keeps_fillings, only_is_closed}
use Rattle.second_search.proofs.tree.write_tree.Goals as goal

pub turn-requires : goal.turn-requires
turn-requires g c =
    let s = c.args.scene.now in
    let i = c.loop-growing.invariant in
    can_close_like s.clues.now (g.E.LineEngine.longest c.args.engine.now) (g.E.LineEngine.longest c.loop-growing.engine) s.facts.now c.loop-growing.growing.trail.at_hand
    (shape_said s.clues.now s.picture.now s.facts.now i.said.0 c.loop-growing.growing i.said.1.1) i.same_longest c.requires

pub returns-in-Some-clause-decides : goal.returns-in-Some-clause-decides
returns-in-Some-clause-decides g c =
    let s = c.args.scene.now in
    let i = c.loop-growing.invariant in
    found_said only_is_closed closing_keeps_fillings s.clues.now s.picture.now s.facts.now c.in-Some.picture i.said.0 c.loop-growing.growing i.said.1.1 (rw c.in-Some.is at c.in_ok-found.ensures.turns)

pub returns-then-not-goes-clause-decides : goal.returns-then-not-goes-clause-decides
returns-then-not-goes-clause-decides g c =
    let s = c.args.scene.now in
    let i = c.loop-growing.invariant in
    tree_decides s.clues.now s.picture.now s.facts.now c.args.keeps i.said.0 c.advance.new.self.lines i.said.1.0 (ends_said s.clues.now s.picture.now s.facts.now i.said.0 c.advance.new.self.lines
    c.loop-growing.growing c.turn.new.self c.advance.new.self i.said.1.1 (rw c.in-None.is at c.in_ok-found.ensures.turns) (rw c.if-not-goes.true at c.in_ok-goes.ensures) refl)

pub loop-growing-preserved : goal.loop-growing-preserved
loop-growing-preserved g c =
    let s = c.args.scene.now in
    let i = c.loop-growing.invariant in
    record {
      said = (
        i.said.0,
        (
          i.said.1.0,
          goes_said s.clues.now s.picture.now s.facts.now i.said.0 c.loop-growing.growing c.turn.new.self c.advance.new.self i.said.1.1
              (rw c.in-None.is at c.in_ok-found.ensures.turns) (rw c.if-not-goes.false at c.in_ok-goes.ensures),
        ),
      );
      calls = omega arith;
      few = omega arith;
      same_longest = c.turn.ensures.same_longest ∙ i.same_longest;
    }

pub loop-growing-smaller : goal.loop-growing-smaller
loop-growing-smaller g c =
    let s = c.args.scene.now in
    said_lighter s.clues.now s.picture.now c.loop-growing.growing c.turn.new.self c.advance.new.self (rw c.in-None.is at c.in_ok-found.ensures.turns) (rw c.if-not-goes.false at c.in_ok-goes.ensures)

pub loop-growing-init : goal.loop-growing-init
loop-growing-init g c =
    let s = c.args.scene.now in
    record {
      said = (
        c.no_lines.result,
        (
          c.no_lines.ensures,
          starts_said s.clues.now s.picture.now s.facts.now c.in_ok-copy.field-0 c.no_lines.result
              (record { trail = c.start.result; lines = c.no_lines.result; due = c.all_lines.result }) c.in_ok-copy.ensures c.start.ensures refl,
        ),
      );
      calls = omega arith;
      few = omega arith;
      same_longest = refl;
    }

pub returns-in_err-found-clause-few : goal.returns-in_err-found-clause-few
returns-in_err-found-clause-few g c =
    let s = c.args.scene.now in
    let i = c.loop-growing.invariant in
    few_said s.clues.now s.picture.now s.facts.now i.said.0 c.loop-growing.growing c.args.way.until _ _ _ i.said.1.1 i.few c.turn.ensures.few

pub returns-in-Some-clause-few : goal.returns-in-Some-clause-few
returns-in-Some-clause-few g c =
    let s = c.args.scene.now in
    let i = c.loop-growing.invariant in
    few_said s.clues.now s.picture.now s.facts.now i.said.0 c.loop-growing.growing c.args.way.until _ _ _ i.said.1.1 i.few c.turn.ensures.few

pub returns-in_err-goes-clause-few : goal.returns-in_err-goes-clause-few
returns-in_err-goes-clause-few g c =
    let s = c.args.scene.now in
    let i = c.loop-growing.invariant in
    few_said s.clues.now s.picture.now s.facts.now i.said.0 c.loop-growing.growing c.args.way.until _ _ _ i.said.1.1 i.few c.turn.ensures.few

pub returns-then-not-goes-clause-few : goal.returns-then-not-goes-clause-few
returns-then-not-goes-clause-few g c =
    let s = c.args.scene.now in
    let i = c.loop-growing.invariant in
    few_said s.clues.now s.picture.now s.facts.now i.said.0 c.loop-growing.growing c.args.way.until _ _ _ i.said.1.1 i.few c.turn.ensures.few

pub returns-then-is_over-clause-few : goal.returns-then-is_over-clause-few
returns-then-is_over-clause-few g c =
    let s = c.args.scene.now in
    let i = c.loop-growing.invariant in
    few_said s.clues.now s.picture.now s.facts.now i.said.0 c.loop-growing.growing c.args.way.until _ _ _ i.said.1.1 i.few c.turn.ensures.few

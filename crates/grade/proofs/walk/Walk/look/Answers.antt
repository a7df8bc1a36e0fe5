use Rattle.std.proofs.Common.{length, refl, sym, ap, ◌∙◌, arith}
use Rattle.grade.specs.declared.walk.Walk.{Walk}
use Rattle.line_facts.proofs.GridLaws.{same_line_length}
use Rattle.grade.proofs.NeedLemmas.{left_after}
use Rattle.grade.proofs.WalkLemmas.{can_after, less_after, walks_after}
use Rattle.grade.proofs.walk.Walk.look.Goals as goal

pub returns-clause-can : goal.returns-clause-can
returns-clause-can g c =
    let e = c.force_crossing-forced.ensures in
    let gains = rw c.clue.ensures.value at e.gains in
    can_after c.args.book.now c.args.facts.now c.force_crossing-forced.new.facts c.next_look.new.self (record { due = c.put_all.new.self; turn = c.next_look.new.self.turn }) c.in_ok-turn.turn _ _
    c.height.ensures.facts c.in_ok-turn.ensures.line c.next_look.ensures.can c.in_ok-turn.ensures.gone gains e.changed c.put_all.ensures.members refl

pub returns-clause-looks : goal.returns-clause-looks
returns-clause-looks g c = λ start looks w.
    let e = c.force_crossing-forced.ensures in
    let gains = rw c.clue.ensures.value at e.gains in
    let about = c.in_ok-turn.ensures.comes c.args.book.now start looks w in (
      (λ i. record { turn = c.in_ok-turn.turn; before = c.of-before.ensures i; after = c.of-after.ensures i }),
      walks_after c.args.book.now c.args.facts.now c.force_crossing-forced.new.facts c.next_look.new.self (record { due = c.put_all.new.self; turn = c.next_look.new.self.turn }) c.in_ok-turn.turn _ _
          c.height.ensures.facts c.in_ok-turn.ensures.line c.next_look.ensures.can c.in_ok-turn.ensures.gone gains e.changed c.put_all.ensures.members refl start looks about,
    )

pub returns-clause-lengths : goal.returns-clause-lengths
returns-clause-lengths g c =
    let gains = c.force_crossing-forced.ensures.gains in
    ap length c.of-after.ensures ∙ (same_line_length c.args.facts.now c.force_crossing-forced.new.facts c.in_ok-turn.turn.line gains.same_shape ∙ sym (ap length c.of-before.ensures))

pub returns-clause-left : goal.returns-clause-left
returns-clause-left g c =
    let gains = rw c.clue.ensures.value at c.force_crossing-forced.ensures.gains in
    left_after _ c.in_ok-turn.turn.line c.args.facts.now c.force_crossing-forced.new.facts _ _ _ c.of-before.ensures c.of-after.ensures gains

pub returns-clause-less : goal.returns-clause-less
returns-clause-less g c =
    let e = c.force_crossing-forced.ensures in
    let gains = rw c.clue.ensures.value at e.gains in
    let after : Walk = record { due = c.put_all.new.self; turn = c.next_look.new.self.turn } in
    let less = less_after c.args.book.now c.args.facts.now c.force_crossing-forced.new.facts c.next_look.new.self after c.in_ok-turn.turn _ _
    c.height.ensures.facts c.in_ok-turn.ensures.line c.next_look.ensures.can c.in_ok-turn.ensures.gone gains e.changed c.put_all.ensures.members refl in
    omega (arith, less, c.in_ok-turn.ensures.less)

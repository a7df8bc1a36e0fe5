use Rattle.std.proofs.Common.{◌∙◌, None, Some, ap, refl, subst, sym}
use Rattle.line_facts.specs.FactSets.{IsFacts}
use Rattle.second_search.specs.declared.tree.Growing.{Growing}
use Rattle.trail.specs.Trail.{Trailed}
use Rattle.second_search.proofs.KeepLemmas.{can_close_like}
use Rattle.second_search.proofs.TreeLemmas.{dead_turn, ends_turn, splits_turn, turn_on}
use Rattle.second_search.specs.Through.{across}
use Rattle.second_search.proofs.tree.Growing.turn.Goals as goal

pub narrow-requires-clause-others : goal.narrow-requires-clause-others
narrow-requires-clause-others g c = λ row col h out. absurd (out ((c.all_lines.ensures.lines (across row)).1 h))

pub returns-in-Dead-clause-turns : goal.returns-in-Dead-clause-turns
returns-in-Dead-clause-turns g c =
    let s = c.args.scene.now in
    dead_turn s.clues.now s.picture.now c.in_ok-facts.facts c.close_written.new.facts c.args.self.now _ (c.in_ok-facts.ensures ∙ c.at_hand.ensures) refl
    (rw c.in-Dead.is at c.in_ok-outcome.ensures.settles)

pub next_step-requires : goal.next_step-requires
next_step-requires g c =
    let s = c.args.scene.now in
    let here = rw c.in-Narrowed.is at c.in_ok-outcome.ensures.settles in
    let first = rw (← (c.in_ok-facts.ensures ∙ c.at_hand.ensures)) at c.requires in
    can_close_like s.clues.now (g.E.LineEngine.longest c.args.engine.now)
    (g.E.LineEngine.longest c.close_written.new.engine) c.in_ok-facts.facts c.close_written.new.facts here.0.same_shape c.close_written.ensures.same_longest first

pub returns-in-Other-clause-turns : goal.returns-in-Other-clause-turns
returns-in-Other-clause-turns g c =
    let s = c.args.scene.now in
    let settled = c.close_written.new.facts in
    let mid : Growing = record { trail = c.narrow.new.self; lines = c.close_written.new.lines; due = c.args.self.now.due } in
    let other = rw (← ap (λ (x : Trailed). x.at_hand) c.in_ok-narrow.ensures) at (rw c.in-Other.is at c.in_ok-step.ensures.continues) in
    turn_on s.clues.now s.picture.now c.in_ok-facts.facts settled c.args.self.now mid mid (c.in_ok-facts.ensures ∙ c.at_hand.ensures)
    (rw c.in-Narrowed.is at c.in_ok-outcome.ensures.settles) c.in_ok-narrow.ensures (Some c.in-Other.picture) other

pub returns-in-Ends-clause-turns : goal.returns-in-Ends-clause-turns
returns-in-Ends-clause-turns g c =
    let s = c.args.scene.now in
    let settled = c.close_written.new.facts in
    let mid : Growing = record { trail = c.narrow.new.self; lines = c.close_written.new.lines; due = c.args.self.now.due } in
    let stands = rw (← ap (λ (x : Trailed). x.at_hand) c.in_ok-narrow.ensures) at (rw c.in-Ends.is at c.in_ok-step.ensures.continues) in
    turn_on s.clues.now s.picture.now c.in_ok-facts.facts settled c.args.self.now mid _ (c.in_ok-facts.ensures ∙ c.at_hand.ensures)
    (rw c.in-Narrowed.is at c.in_ok-outcome.ensures.settles) c.in_ok-narrow.ensures None (ends_turn s.clues.now s.picture.now mid _ c.in-Ends.line stands refl c.in_ok-add-in-Ends.ensures)

pub returns-clause-turns : goal.returns-clause-turns
returns-clause-turns g c =
    let s = c.args.scene.now in
    let settled = c.close_written.new.facts in
    let mid : Growing = record { trail = c.narrow.new.self; lines = c.close_written.new.lines; due = c.args.self.now.due } in
    let hand = sym (ap (λ (x : Trailed). x.at_hand) c.in_ok-narrow.ensures) in
    let at = rw hand at (rw c.in-Splits.is at c.in_ok-step.ensures.continues) in
    turn_on s.clues.now s.picture.now c.in_ok-facts.facts settled c.args.self.now mid _ (c.in_ok-facts.ensures ∙ c.at_hand.ensures)
    (rw c.in-Narrowed.is at c.in_ok-outcome.ensures.settles) c.in_ok-narrow.ensures None (splits_turn s.clues.now s.picture.now mid _ c.in-Splits.cell c.cell_number.result
    (subst IsFacts hand c.height.ensures.facts) at c.cell_number.ensures.row c.cell_number.ensures.col c.in_ok-split-in-Splits.ensures c.in_ok-add-in-Splits.ensures)

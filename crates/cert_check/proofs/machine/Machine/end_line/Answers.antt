use Rattle.std.proofs.Common.{◌≡◌, List, ℕ, ap, inr, refl, ◌∙◌}
use Rattle.cert_check.proofs.WalkLemmas.{found_clue, not_dead}
use Rattle.cert_check.specs.Machined.{Machined}
use Rattle.cert_check.proofs.machine.Machine.end_line.Goals as goal

pub clue-requires : goal.clue-requires
clue-requires g c = found_clue c.args.claim.now.picture.now c.args.claim.now.clues.now _ c.args.at c.in-Some.line c.requires.can c.in-Some.ensures.0 c.in-Some.ensures.1

pub returns-then-not-is_dead-clause-takes : goal.returns-then-not-is_dead-clause-takes
returns-then-not-is_dead-clause-takes g c =
    let facts : c.at_hand.result.now ≡ c.args.self.now.walk.at_hand = c.at_hand.ensures ∙ ap {B = List (List ℕ)} (λ (m : Machined). m.walk.at_hand) c.self.view_is in
    inr (
      c.in-Some.ensures.0,
      not_dead c.args.claim.now.picture.now c.args.self.now.walk.at_hand c.args.claim.now.clues.now _ _ c.args.at c.in-Some.line c.is_dead.result c.requires.can c.in-Some.ensures.1
          c.clue.ensures.value (rw facts at c.is_dead.ensures.dead) c.if-not-is_dead.true,
      refl,
    )

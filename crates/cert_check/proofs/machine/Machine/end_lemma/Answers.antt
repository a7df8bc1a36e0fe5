use Rattle.std.proofs.Common.{List, ℕ, ap, ◌∙◌}
use Rattle.cert_check.specs.Machined.{Machined}
use Rattle.cert_check.proofs.MachineLemmas.{places_at_hand}
use Rattle.cert_check.proofs.machine.Machine.end_lemma.Goals as goal

pub open_in-open-requires-clause-places : goal.open_in-open-requires-clause-places
open_in-open-requires-clause-places c =
    let inside = c.self.inside in
    let facts = c.at_hand.ensures ∙ ap {B = List (List ℕ)} (λ (m : Machined). m.walk.at_hand) c.self.view_is in
    places_at_hand c.args.claim.now.picture.now c.args.self.now c.at_hand.result.now inside.store.height inside.store.width c.in-Some.found.literals.now c.in-Some.found.places.now c.requires.right
    (ap (λ (m : Machined). m.height) c.self.view_is) (ap (λ (m : Machined). m.width) c.self.view_is) facts c.in-Some.ensures.2

use Rattle.std.proofs.Common.{◌≡◌, [], ◌∷◌, List, ℕ, Some, ap, sym, refl, ◌∙◌}
use Rattle.line_facts.specs.Masks.{Masks}
use Rattle.cert_check.specs.Lemmas.{Lemmas, lemma_at, still_open, used}
use Rattle.cert_check.specs.Machined.{Machined}
use Rattle.cert_check.specs.Walk.{Walk, at_facts, walk_of}
use Rattle.cert_check.proofs.MachineLemmas.{goes_on, places_at_hand}
use Rattle.cert_check.proofs.OpenLemmas.{nothing_holds, one_holds}
use Rattle.cert_check.proofs.machine.Machine.use_lemma.Goals as goal

pub returns-in-One-clause-takes : goal.returns-in-One-clause-takes
returns-in-One-clause-takes c =
    let walk = c.args.self.now.walk in
    let right = c.requires.right in
    let inside = c.self.inside in
    let literals = c.in-Some.found.literals.now in
    let now : walk_of inside.board.at_hand inside.board.behind inside.store.lemmas inside.store.denied inside.stage ≡ walk = ap {B = Walk} (λ (m : Machined). m.walk) c.self.view_is in
    let kept : lemma_at walk.lemmas c.args.lemma ≡ Some literals = rw (ap {B = Lemmas} (λ (w : Walk). w.lemmas) now) at c.in-Some.ensures.0 in
    let facts = c.at_hand.ensures ∙ ap {B = List (List ℕ)} (λ (w : Walk). w.at_hand) now in
    let told = rw facts at c.open_in-open.ensures.told in
    let one = one_holds walk.at_hand (still_open walk.at_hand literals) c.in-One.literal (sym c.in-One.is ∙ told) in (
      (λ going. c.hold_to.ensures.right),
      (
        used walk.at_hand literals ∷ [],
        (
          (literals, (kept, refl)),
          ap Some c.hold_to.ensures.walk
              ∙ (ap (λ (f : Masks). Some (at_facts walk f)) one ∙ goes_on walk (used walk.at_hand literals) right.free right.none_denied),
        ),
      ),
    )

pub returns-in_default-open-clause-takes : goal.returns-in_default-open-clause-takes
returns-in_default-open-clause-takes c =
    let walk = c.args.self.now.walk in
    let right = c.requires.right in
    let inside = c.self.inside in
    let literals = c.in-Some.found.literals.now in
    let now : walk_of inside.board.at_hand inside.board.behind inside.store.lemmas inside.store.denied inside.stage ≡ walk = ap {B = Walk} (λ (m : Machined). m.walk) c.self.view_is in
    let kept : lemma_at walk.lemmas c.args.lemma ≡ Some literals = rw (ap {B = Lemmas} (λ (w : Walk). w.lemmas) now) at c.in-Some.ensures.0 in
    let facts = c.at_hand.ensures ∙ ap {B = List (List ℕ)} (λ (w : Walk). w.at_hand) now in
    let told = rw facts at c.open_in-open.ensures.told in
    let none = nothing_holds walk.at_hand (still_open walk.at_hand literals) c.open_in-open.result told c.in_default-open.not-One in (
      (λ going. right),
      (
        used walk.at_hand literals ∷ [],
        (
          (literals, (kept, refl)),
          ap (λ (f : Masks). Some (at_facts walk f)) none ∙ goes_on walk (used walk.at_hand literals) right.free right.none_denied,
        ),
      ),
    )

pub open_in-open-requires-clause-places : goal.open_in-open-requires-clause-places
open_in-open-requires-clause-places c =
    let inside = c.self.inside in
    let facts = c.at_hand.ensures ∙ ap {B = List (List ℕ)} (λ (m : Machined). m.walk.at_hand) c.self.view_is in
    places_at_hand c.args.claim.now.picture.now c.args.self.now c.at_hand.result.now inside.store.height inside.store.width c.in-Some.found.literals.now c.in-Some.found.places.now c.requires.right
    (ap (λ (m : Machined). m.height) c.self.view_is) (ap (λ (m : Machined). m.width) c.self.view_is) facts c.in-Some.ensures.2

use Rattle.std.proofs.Common.{◌≡◌, [], ◌∷◌, List, ℕ, Some, ap, sym, refl, ◌∙◌}
use Rattle.cert_check.specs.Machined.{Machined}
use Rattle.cert_check.specs.Puzzle.{IsForced, line_id}
use Rattle.cert_check.specs.Walk.{Walk, at_facts, walk_of}
use Rattle.cert_check.proofs.MachineLemmas.{goes_on, still_right}
use Rattle.cert_check.proofs.machine.Machine.force_line.Goals as goal

pub returns-clause-takes : goal.returns-clause-takes
returns-clause-takes g c =
    let walk = c.args.self.now.walk in
    let inside = c.self.inside in
    let right = c.requires.right in
    let new = c.force.new.board.at_hand in
    let now : walk_of inside.board.at_hand inside.board.behind inside.store.lemmas inside.store.denied inside.stage ≡ walk = ap {B = Walk} (λ
    (m : Machined). m.walk) c.self.view_is in
    let behind = c.force.ensures.behind in
    let facts = ap {B = List (List ℕ)} (λ (w : Walk). w.at_hand) now in
    let forced : IsForced c.args.claim.now.picture.now walk.at_hand (line_id c.args.at) new = rw (facts, c.in-Some.ensures.1) at c.force.ensures.forced in (
      (λ going. still_right c.args.claim.now.picture.now c.args.self.now _ new c.force.new.board.behind _ _ _ _ _ _ _ _ right now (ap (λ (m : Machined). m.height) c.self.view_is) (ap (λ (m : Machined). m.width) c.self.view_is) (λ e. sym behind ∙ e) c.force.ensures.tallied),
      (
        new ∷ [],
        (
          (c.in-Some.ensures.0, (new, (forced, refl))),
          ap (λ (b : List (List (List ℕ))). Some (walk_of new b inside.store.lemmas inside.store.denied inside.stage)) behind
              ∙ (ap (λ (w : Walk). Some (at_facts w new)) now ∙ goes_on walk new right.free right.none_denied),
        ),
      ),
    )

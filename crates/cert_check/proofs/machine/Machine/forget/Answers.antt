use Rattle.std.proofs.Common.{◌≡◌, [], Some, None, List, ℕ, ap, sym, ◌∙◌, set}
use Rattle.cert_text.specs.declared.cert_line.Literal.{Literal}
use Rattle.cert_check.specs.Lemmas.{Lemmas}
use Rattle.cert_check.specs.Machined.{Machined}
use Rattle.cert_check.specs.Stores.{Stored}
use Rattle.cert_check.specs.Walk.{Walk, walk_of}
use Rattle.cert_check.proofs.MachineLemmas.{is_without, right_without}
use Rattle.cert_check.proofs.machine.Machine.forget.Goals as goal

pub returns-clause-takes : goal.returns-clause-takes
returns-clause-takes c =
    let walk = c.args.self.now.walk in
    let right = c.requires.right in
    let inside = c.self.inside in
    let now : walk_of inside.board.at_hand inside.board.behind inside.store.lemmas inside.store.denied inside.stage ≡ walk = ap {B = Walk} (λ (m : Machined). m.walk) c.self.view_is in
    let last : walk.behind ≡ [] = sym (ap {B = List (List (List ℕ))} (λ (w : Walk). w.behind) now) ∙ c.is_last.ensures.0 c.if-not-is_last.false in
    let free = right.free last in
    let store = c.forget.ensures in (
      (λ going. right_without c.args.claim.now.picture.now c.args.self.now _ c.forget.new.self _ _ _ _ _ _ _ _ right now (ap (λ (s : Stored). s.height) store ∙ ap (λ (m : Machined). m.height) c.self.view_is) (ap (λ (s : Stored). s.width) store ∙ ap (λ (m : Machined). m.width) c.self.view_is) (ap (λ (m : Machined). m.strays) c.self.view_is) (ap (λ
          (m : Machined). m.waits) c.self.view_is) (ap (λ (m : Machined). m.settled) c.self.view_is) (ap (λ (m : Machined). m.parts) c.self.view_is)
          (ap {B = List Literal} (λ (s : Stored). s.denied) store)),
      (
        last,
        (c.in-Some._found.literals.now, rw (ap {B = Lemmas} (λ (w : Walk). w.lemmas) now) at c.in-Some.ensures.0),
        ap (λ (s : Stored). Some (walk_of inside.board.at_hand inside.board.behind s.lemmas s.denied inside.stage)) store
            ∙ (ap (λ (w : Walk). Some (walk_of w.at_hand w.behind (set w.lemmas c.args.lemma None) w.denied w.stage)) now ∙ is_without walk c.args.lemma last free (right.none_denied free)),
      ),
    )

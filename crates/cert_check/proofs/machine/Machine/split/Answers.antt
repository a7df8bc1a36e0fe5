use Rattle.std.proofs.Common.{◌≡◌, [], ◌++◌, List, Some, ap, sym, refl, ◌∙◌}
use Rattle.line_facts.specs.Branches.{branches, colours_of, held}
use Rattle.line_facts.specs.Masks.{Masks}
use Rattle.picture.specs.Rows.{cell_at}
use Rattle.trail.proofs.NoteLemmas.{no_colours}
use Rattle.cert_check.specs.Machined.{Machined}
use Rattle.cert_check.specs.Puzzle.{split_at}
use Rattle.cert_check.specs.Walk.{Walk, next_at, walk_of}
use Rattle.cert_check.proofs.MachineLemmas.{goes_over, still_right}
use Rattle.cert_check.proofs.machine.Machine.split.Goals as goal

pub returns-then-left-eq0-clause-takes : goal.returns-then-left-eq0-clause-takes
returns-then-left-eq0-clause-takes c =
    let walk = c.args.self.now.walk in
    let facts : c.at_hand.result.now ≡ walk.at_hand = c.at_hand.ensures ∙ ap {B = Masks} (λ (m : Machined). m.walk.at_hand) c.self.view_is in
    let left : c.left.result ≡ cell_at walk.at_hand c.in-Some.cell.row c.in-Some.cell.col = rw facts at c.left.ensures.value in
    let none : cell_at walk.at_hand c.in-Some.cell.row c.in-Some.cell.col ≡ 0 = sym left ∙ c.if-left-eq0.true in
    let empty : split_at walk.at_hand c.args.at ≡ [] = rw (← c.in-Some.ensures.1, ← c.in-Some.ensures.2)
    (ap (held walk.at_hand c.in-Some.cell.row c.in-Some.cell.col) (ap colours_of none ∙ no_colours)) in (
      c.go_on.ensures.right,
      (
        split_at walk.at_hand c.args.at,
        (
          (c.in-Some.ensures.0, refl),
          c.go_on.ensures.walk ∙ ap (λ (fs : List Masks). next_at walk (fs ++ walk.behind)) (sym empty),
        ),
      ),
    )

pub returns-clause-takes : goal.returns-clause-takes
returns-clause-takes c =
    let walk = c.args.self.now.walk in
    let right = c.requires.right in
    let inside = c.self.inside in
    let new = c.split.new.self in
    let now : walk_of inside.board.at_hand inside.board.behind inside.store.lemmas inside.store.denied inside.stage ≡ walk = ap {B = Walk} (λ (m : Machined). m.walk) c.self.view_is in
    let last : new.behind ≡ [] → walk.behind ≡ [] = λ e. sym (ap {B = List Masks} (λ (w : Walk). w.behind) now) ∙ c.split.ensures.last e in
    let all = ap (λ (w : Walk). branches w.at_hand c.in-Some.cell.row c.in-Some.cell.col (cell_at w.at_hand c.in-Some.cell.row c.in-Some.cell.col) ++ w.behind) (sym now) ∙ c.split.ensures.branches in
    let next = rw (c.in-Some.ensures.1, c.in-Some.ensures.2) at all in (
      (λ going. still_right c.args.claim.now.picture.now c.args.self.now _ new.at_hand new.behind _ _ _ _ _ _ _ _ right now (ap (λ (m : Machined). m.height) c.self.view_is) (ap (λ (m : Machined). m.width) c.self.view_is) c.split.ensures.last c.split.ensures.tallied),
      (
        split_at walk.at_hand c.args.at,
        (
          (c.in-Some.ensures.0, refl),
          ap (λ (w : Walk). Some (walk_of new.at_hand new.behind w.lemmas w.denied w.stage)) now
              ∙ (goes_over walk new.at_hand new.behind (λ e. right.free (last e)) right.none_denied ∙ ap (next_at walk) (sym next)),
        ),
      ),
    )

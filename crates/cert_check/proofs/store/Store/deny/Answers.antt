use Rattle.std.proofs.Common.{◌≡◌, List, ◌∷◌, ◌++◌, [], drop, ap, arith, sym, ◌∙◌}
use Rattle.cert_text.specs.declared.cert_line.Literal.{Literal}
use Rattle.cert_check.specs.Lemmas.{Lemmas}
use Rattle.cert_check.specs.Stores.{Stored, lemmas_in}
use Rattle.cert_check.proofs.StoreLemmas.{denied_store, denied_view, is_place, more_places, same_store}
use Rattle.cert_check.proofs.store.Store.deny.Goals as goal

pub invariant_of-self : goal.invariant_of-self
invariant_of-self c =
    let inside = c.self.inside in
    let lemmas : lemmas_in inside.literals.items inside.lemmas.items ≡ c.args.self.now.lemmas = ap {B = Lemmas} (λ (s : Stored). s.lemmas) c.self.view_is in
    let denied : drop inside.newest inside.literals.items ≡ c.args.self.now.denied = ap {B = List Literal} (λ (s : Stored). s.denied) c.self.view_is in
    let is = c.self.invariant in
    let tall = ap (λ (s : Stored). s.height) c.self.view_is in
    let wide = ap (λ (s : Stored). s.width) c.self.view_is in
    let placed = is_place inside.height inside.width c.args.cell.row c.args.cell.col c.args.literal c.requires.row c.requires.col (let l = c.requires.in_rows in omega arith) (let l = c.requires.in_columns in omega arith) in (
      rw c.push_reserved.ensures.items
          (denied_store inside.literals.items c.args.literal inside.lemmas.items inside.newest inside.count is.0 (rw (← denied) at c.requires.short) (rw (← denied, ← lemmas) at c.requires.few)),
      rw (c.push_reserved.ensures.items, c.push_reserved-2.ensures.items, c.from.ensures, c.from-2.ensures, c.from-3.ensures)
          (more_places inside.height inside.width inside.literals.items inside.places.items c.args.literal _ is.1 placed),
      c.push_reserved-2.ensures.capacity ∙ (is.2 ∙ sym c.push_reserved.ensures.capacity),
    )

pub returns : goal.returns
returns c =
    let inside = c.self.inside in
    let old = c.args.self.now in
    let view = denied_view inside.literals.items c.args.literal inside.lemmas.items inside.newest inside.count c.self.invariant.0 in
    let room = ap (λ (s : Stored). s.literals) c.self.view_is in
    same_store _ _ _ _ _ _ _ _ _ _ _ _
    (ap (λ (items : List Literal). lemmas_in items inside.lemmas.items) c.push_reserved.ensures.items ∙ (view.0 ∙ ap {B = Lemmas} (λ (s : Stored). s.lemmas) c.self.view_is))
    (ap (drop inside.newest) c.push_reserved.ensures.items ∙ (view.1 ∙ ap {B = List Literal} (λ (s : Stored). s.denied ++ c.args.literal ∷ []) c.self.view_is))
    (omega (arith, c.push_reserved.ensures.len, c.push_reserved.ensures.capacity, room)) (ap (λ (s : Stored). s.spare) c.self.view_is)
    (ap (λ (s : Stored). s.height) c.self.view_is) (ap (λ (s : Stored). s.width) c.self.view_is)

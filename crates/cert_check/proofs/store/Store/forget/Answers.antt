use Rattle.std.proofs.Common.{◌≡◌, ℕ, List, set, ap, ◌∙◌, None, false}
use Rattle.std.proofs.lemmas.List.{map-set}
use Rattle.cert_text.specs.declared.cert_line.Literal.{Literal}
use Rattle.cert_check.specs.declared.span.Span.{Span}
use Rattle.cert_check.specs.Lemmas.{IsKept, Lemmas}
use Rattle.cert_check.specs.Stores.{Stored, lemma_in, lemmas_in}
use Rattle.cert_check.proofs.StoreLemmas.{dropped_store, kept_there, same_store}
use Rattle.cert_check.proofs.store.Store.forget.Goals as goal

pub invariant_of-self : goal.invariant_of-self
invariant_of-self c =
    let inside = c.self.inside in
    let lemmas : lemmas_in inside.literals.items inside.lemmas.items ≡ c.args.self.now.lemmas = ap {B = Lemmas} (λ (s : Stored). s.lemmas) c.self.view_is in
    let kept : IsKept (lemmas_in inside.literals.items inside.lemmas.items) c.args.number = rw lemmas c.requires in
    let there = kept_there inside.literals.items inside.lemmas.items c.args.number kept in
    let one = rw c.from-at.ensures at c.index.ensures in (
      rw (c.from-at.ensures, c.from.ensures)
          (dropped_store inside.literals.items inside.lemmas.items inside.newest inside.count c.args.number _ _ c.index.result.now c.self.invariant.0 kept there (ap {B = ℕ} (λ (s : Span). s.len) one)
          (ap {B = ℕ} (λ (s : Span). s.start) one)),
      c.self.invariant.1,
      c.self.invariant.2,
    )

pub returns : goal.returns
returns c =
    let inside = c.self.inside in
    let n = c.args.number in
    rw c.from-at.ensures
    (same_store _ _ _ _ _ _ _ _ _ _ _ _
    (map-set (lemma_in inside.literals.items) inside.lemmas.items n (record { start = c.index.result.now.start; len = c.index.result.now.len; kept = false })
    ∙ ap {B = Lemmas} (λ (s : Stored). set s.lemmas n None) c.self.view_is)
    (ap {B = List Literal} (λ (s : Stored). s.denied) c.self.view_is) (ap (λ (s : Stored). s.literals) c.self.view_is) (ap (λ (s : Stored). s.spare) c.self.view_is)
    (ap (λ (s : Stored). s.height) c.self.view_is) (ap (λ (s : Stored). s.width) c.self.view_is))

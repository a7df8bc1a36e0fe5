use Rattle.std.proofs.Common.{◌≡◌, List, reverse, length, ap, sym, eqb-true, eq-eqb, ◌∙◌, vec_len}
use Rattle.std.proofs.lemmas.List.{length-reverse, nil_from_length}
use Rattle.line_facts.specs.Masks.{Masks}
use Rattle.cert_check.specs.Notes.{Walked, behind_of}
use Rattle.cert_check.proofs.NoteLemmas.{none_behind}
use Rattle.cert_check.proofs.bounded_trail.BoundedTrail.is_last.Goals as goal

pub returns : goal.returns
returns c =
    let inside = c.self.inside in
    let notes = reverse inside.notes.items in
    let same : length notes ≡ vec_len inside.notes = length-reverse inside.notes.items ∙ sym inside.notes.ok.0 in
    let behind : behind_of inside.facts notes ≡ c.args.self.now.behind = ap {B = List Masks} (λ (w : Walked). w.behind) c.self.view_is in (
      (λ e.
          let none = nil_from_length notes (same ∙ eqb-true (vec_len inside.notes) 0 (sym c.is_empty.ensures ∙ e)) in
          sym behind ∙ ap (behind_of inside.facts) none),
      (λ e.
          let none = none_behind _ inside.facts notes c.self.invariant.room (behind ∙ e) in
          c.is_empty.ensures ∙ eq-eqb (vec_len inside.notes) 0 (sym same ∙ ap length none)),
    )

use Rattle.std.proofs.Common.{List, ℕ, ◌∷◌, ◌-◌, ◌≤◌, ap, reverse, sym, ◌∙◌, subst, vec_capacity}
use Rattle.line_facts.specs.Masks.{Masks}
use Rattle.cert_check.specs.Notes.{Walked, with_mask}
use Rattle.cert_check.proofs.NoteLemmas.{behind_noted, bounded_begun, bounded_start, most_same, numbers_noted}
use Rattle.cert_check.proofs.bounded_trail.BoundedTrail.advance.Goals as goal

pub invariant_of-self : goal.invariant_of-self
invariant_of-self c =
    let inside = c.self.inside in
    let back = c.put_back-begun in
    let enough = subst (λ (n : ℕ). n ≤ vec_capacity inside.notes) (most_same inside.facts back.new.facts inside.parts back.ensures.same_shape) c.self.invariant.enough in
    rw (c.in_err-cell.ensures.puts_back.1, back.ensures.capacity) (bounded_start back.new.facts inside.parts (vec_capacity inside.notes) c.height.ensures.facts enough)

pub invariant_of-self-2 : goal.invariant_of-self-2
invariant_of-self-2 c =
    let inside = c.self.inside in
    let back = c.put_back-begun in
    let puts = c.in_ok-cell.ensures.puts_back in
    let cell = c.in_ok-cell.field-0.cell in
    let enough = subst (λ (n : ℕ). n ≤ vec_capacity inside.notes) (most_same inside.facts back.new.facts inside.parts back.ensures.same_shape) c.self.invariant.enough in
    let room = puts.3 (vec_capacity inside.notes - inside.parts) c.self.invariant.room in
    rw (c.change.ensures.facts, c.change.ensures.capacity, back.ensures.capacity)
    (bounded_begun back.new.facts cell (reverse back.new.notes.items) (reverse c.change.new.notes.items) c.height.ensures.facts puts.2 c.change.ensures.notes inside.parts (vec_capacity inside.notes)
    back.ensures.inside room.1 room.0 enough)

pub returns-clause-goes_on : goal.returns-clause-goes_on
returns-clause-goes_on c =
    let back = c.put_back-begun in
    let puts = c.in_ok-cell.ensures.puts_back in
    let cell = c.in_ok-cell.field-0.cell in
    let old = reverse back.new.notes.items in
    let new = reverse c.change.new.notes.items in
    let behind = behind_noted back.new.facts cell old new c.height.ensures.facts puts.2 c.change.ensures.notes in
    let numbers = numbers_noted back.new.facts cell old new c.height.ensures.facts puts.2 c.change.ensures.notes in
    rw c.change.ensures.facts (
      sym (ap {B = List Masks} (λ (w : Walked). w.behind) c.self.view_is)
          ∙ (puts.0 ∙ ap {B = List Masks} (λ (fs : List Masks). with_mask back.new.facts cell ∷ fs) (sym behind)),
      sym (ap {B = List ℕ} (λ (w : Walked). w.waits) c.self.view_is) ∙ (puts.1 ∙ ap (λ (ns : List ℕ). c.in_ok-cell.field-0.strays ∷ ns) (sym numbers)),
    )

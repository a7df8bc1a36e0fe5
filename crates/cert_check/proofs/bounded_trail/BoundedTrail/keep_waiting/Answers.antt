use Rattle.std.proofs.Common.{◌≡◌, List, ℕ, [], ◌∷◌, ap, length, reverse, sym, ◌∙◌, arith, vec_capacity}
use Rattle.std.proofs.lemmas.List.{length-reverse}
use Rattle.line_facts.specs.Masks.{Masks}
use Rattle.cert_check.specs.declared.note.Note.{Note}
use Rattle.cert_check.specs.declared.note.Note.TheVariants.{Wait}
use Rattle.cert_check.specs.Notes.{Walked, numbers_of}
use Rattle.cert_check.proofs.NoteLemmas.{bounded_kept, branch_of, cell_of, newest, none_behind}
use Rattle.cert_check.proofs.bounded_trail.BoundedTrail.keep_waiting.Goals as goal

pub push_reserved-requires : goal.push_reserved-requires
push_reserved-requires c =
    let inside = c.self.inside in
    let none : reverse inside.notes.items ≡ [] = none_behind _ inside.facts (reverse inside.notes.items) c.self.invariant.room (ap {B = List Masks} (λ
    (w : Walked). w.behind) c.self.view_is ∙ c.requires) in
    omega (arith, ap {B = ℕ} (λ (ns : List Note). length ns) none, length-reverse inside.notes.items, inside.notes.ok.0, c.self.invariant.enough)

one : (c : goal.After-push_reserved) → reverse c.push_reserved.new.self.items ≡ Wait (branch_of (cell_of 0 0 c.left-mask.result) c.args.strays) ∷ []
one c =
    let inside = c.self.inside in
    let none : reverse inside.notes.items ≡ [] = none_behind _ inside.facts (reverse inside.notes.items) c.self.invariant.room (ap {B = List Masks} (λ
    (w : Walked). w.behind) c.self.view_is ∙ c.requires) in
    newest inside.notes.items c.push_reserved.new.self.items _ c.push_reserved.ensures.items ∙ ap (λ (ns : List Note). Wait (branch_of (cell_of 0 0 c.left-mask.result) c.args.strays) ∷ ns) none

pub invariant_of-self : goal.invariant_of-self
invariant_of-self c =
    let inside = c.self.inside in
    let is = c.left-mask.ensures.facts in
    rw (one c, c.push_reserved.ensures.capacity)
    (bounded_kept inside.facts (cell_of 0 0 c.left-mask.result) c.args.strays inside.parts (vec_capacity inside.notes) is (is.has_row, is.has_column) (sym c.left-mask.ensures.value)
    c.self.invariant.enough)

pub returns-clause-waits : goal.returns-clause-waits
returns-clause-waits c = ap numbers_of (one c)

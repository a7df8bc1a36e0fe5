use Rattle.std.proofs.Common.{◌≡◌, List, ap, reverse, ◌∙◌, arith, vec_capacity}
use Rattle.std.proofs.lemmas.List.{length-reverse}
use Rattle.line_facts.specs.Masks.{Masks}
use Rattle.cert_check.specs.Notes.{Walked}
use Rattle.cert_check.proofs.BoundLemmas.{colours_lost}
use Rattle.cert_check.proofs.NoteLemmas.{behind_noted, bounded_held, cell_of}
use Rattle.cert_check.proofs.bounded_trail.BoundedTrail.hold.Goals as goal

pub change-requires-clause-room : goal.change-requires-clause-room
change-requires-clause-room c = λ d.
    let inside = c.self.inside in
    let facts : inside.facts ≡ c.args.self.now.at_hand = ap {B = Masks} (λ (w : Walked). w.at_hand) c.self.view_is in
    let lost = colours_lost inside.facts c.args.cell.row c.args.cell.col c.args.held (rw (← facts) at c.requires.in_rows) (rw (← facts) at c.requires.in_columns) c.height.ensures.facts
    (rw (← facts) at c.requires.left) d in
    omega (arith, lost, length-reverse inside.notes.items, inside.notes.ok.0, c.self.invariant.fits)

pub invariant_of-self : goal.invariant_of-self
invariant_of-self c =
    let inside = c.self.inside in
    let facts : inside.facts ≡ c.args.self.now.at_hand = ap {B = Masks} (λ (w : Walked). w.at_hand) c.self.view_is in
    rw (c.change.ensures.facts, c.change.ensures.capacity)
    (bounded_held inside.facts (cell_of c.args.cell.row c.args.cell.col c.args.held) (reverse inside.notes.items) (reverse c.change.new.notes.items) c.height.ensures.facts
    (rw (← facts) at c.requires.in_rows, rw (← facts) at c.requires.in_columns) c.change.ensures.notes inside.parts (vec_capacity inside.notes) c.self.invariant (rw (← facts) at c.requires.left))

pub returns-clause-behind : goal.returns-clause-behind
returns-clause-behind c =
    let inside = c.self.inside in
    let facts : inside.facts ≡ c.args.self.now.at_hand = ap {B = Masks} (λ (w : Walked). w.at_hand) c.self.view_is in
    rw c.change.ensures.facts
    (behind_noted inside.facts (cell_of c.args.cell.row c.args.cell.col c.args.held) (reverse inside.notes.items) (reverse c.change.new.notes.items) c.height.ensures.facts
    (rw (← facts) at c.requires.in_rows, rw (← facts) at c.requires.in_columns) c.change.ensures.notes)
    ∙ ap {B = List Masks} (λ (w : Walked). w.behind) c.self.view_is

use Rattle.std.proofs.Common.{◌≡◌, List, ◌∷◌, ap, bit_and, reverse, ◌∙◌, arith, vec_capacity}
use Rattle.std.specs.Int.{bit_not, w16}
use Rattle.std.proofs.lemmas.List.{length-reverse}
use Rattle.picture.specs.Rows.{cell_at, with_cell}
use Rattle.line_facts.specs.Masks.{Masks}
use Rattle.cert_check.specs.declared.note.Note.TheVariants.{Wait}
use Rattle.cert_check.specs.Notes.{Notes, Walked, behind_of}
use Rattle.cert_check.proofs.NoteLemmas.{behind_noted, bounded_parted, branch_of, cell_of, newest, room_for_one, room_for_two}
use Rattle.cert_check.proofs.bounded_trail.BoundedTrail.part.Goals as goal

pub push_reserved-requires : goal.push_reserved-requires
push_reserved-requires c =
    let inside = c.self.inside in
    let row = c.args.cell.row in
    let col = c.args.cell.col in
    let facts : inside.facts ≡ c.args.self.now.at_hand = ap {B = Masks} (λ (w : Walked). w.at_hand) c.self.view_is in
    let spends = rw c.left-left.ensures.value at c.spend-self-inside.ensures.spends in
    let one = room_for_one inside.facts row col c.args.colours c.args.strays inside.parts c.spend-self-inside.result (vec_capacity inside.notes) (reverse inside.notes.items) c.left-left.ensures.facts
    (rw (← facts) at c.requires.in_rows) (rw (← facts) at c.requires.in_columns) c.ranges.colours.fits c.self.invariant spends in
    omega (arith, one, length-reverse inside.notes.items, inside.notes.ok.0)

pub change-requires-clause-room : goal.change-requires-clause-room
change-requires-clause-room c = λ d.
    let inside = c.self.inside in
    let row = c.args.cell.row in
    let col = c.args.cell.col in
    let facts : inside.facts ≡ c.args.self.now.at_hand = ap {B = Masks} (λ (w : Walked). w.at_hand) c.self.view_is in
    let spends = rw c.left-left.ensures.value at c.spend-self-inside.ensures.spends in
    let two = room_for_two inside.facts row col c.args.colours c.args.strays inside.parts c.spend-self-inside.result (vec_capacity inside.notes) (reverse inside.notes.items) c.left-left.ensures.facts
    (rw (← facts) at c.requires.in_rows) (rw (← facts) at c.requires.in_columns) c.ranges.colours.fits c.self.invariant spends (rw c.left-left.ensures.value at d) in
    omega (arith, two, length-reverse inside.notes.items, inside.notes.ok.0, c.push_reserved.ensures.len, c.push_reserved.ensures.capacity)

-- what the change notes, after the branch that waits
noted : (c : goal.After-change) → Notes c.self.inside.facts (cell_of c.args.cell.row c.args.cell.col (bit_and (cell_at c.self.inside.facts c.args.cell.row c.args.cell.col)
    (bit_not w16 c.args.colours)))
    (Wait (branch_of (cell_of c.args.cell.row c.args.cell.col (bit_and (cell_at c.self.inside.facts c.args.cell.row c.args.cell.col) c.args.colours)) c.args.strays)
    ∷ reverse c.self.inside.notes.items) (reverse c.change.new.notes.items)
noted c = rw (newest c.self.inside.notes.items c.push_reserved.new.self.items _ c.push_reserved.ensures.items, c.left-left.ensures.value) at c.change.ensures.notes

pub invariant_of-self : goal.invariant_of-self
invariant_of-self c =
    let inside = c.self.inside in
    let row = c.args.cell.row in
    let col = c.args.cell.col in
    let facts : inside.facts ≡ c.args.self.now.at_hand = ap {B = Masks} (λ (w : Walked). w.at_hand) c.self.view_is in
    let spends = rw c.left-left.ensures.value at c.spend-self-inside.ensures.spends in
    rw (c.change.ensures.facts, c.change.ensures.capacity, c.push_reserved.ensures.capacity, c.left-left.ensures.value)
    (bounded_parted inside.facts row col c.args.colours c.args.strays inside.parts c.spend-self-inside.result (vec_capacity inside.notes) (reverse inside.notes.items) c.left-left.ensures.facts
    (rw (← facts) at c.requires.in_rows) (rw (← facts) at c.requires.in_columns) c.ranges.colours.fits c.self.invariant spends (reverse c.change.new.notes.items) (noted c))

pub returns-clause-behind : goal.returns-clause-behind
returns-clause-behind c =
    let inside = c.self.inside in
    let row = c.args.cell.row in
    let col = c.args.cell.col in
    let facts : inside.facts ≡ c.args.self.now.at_hand = ap {B = Masks} (λ (w : Walked). w.at_hand) c.self.view_is in
    let behind : behind_of inside.facts (reverse inside.notes.items) ≡ c.args.self.now.behind = ap {B = List Masks} (λ (w : Walked). w.behind) c.self.view_is in
    let held : Masks = with_cell inside.facts row col (bit_and (cell_at inside.facts row col) c.args.colours) in
    rw (c.change.ensures.facts, c.left-left.ensures.value)
    (behind_noted inside.facts (cell_of row col (bit_and (cell_at inside.facts row col) (bit_not w16 c.args.colours)))
    _ (reverse c.change.new.notes.items) c.left-left.ensures.facts
    (rw (← facts) at c.requires.in_rows, rw (← facts) at c.requires.in_columns) (noted c))
    ∙ (ap {B = List Masks} (λ (fs : List Masks). held ∷ fs) behind
    ∙ ap {B = List Masks} (λ (f : Masks). with_cell f row col (bit_and (cell_at f row col) c.args.colours) ∷ c.args.self.now.behind) facts)

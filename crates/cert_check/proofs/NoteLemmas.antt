-- The notes of a bounded trail when a cell gets a mask, a branch waits or begins.
use Rattle.std.proofs.Common.{◌≡◌, ℕ, ◌+◌, ◌-◌, ◌*◌, ◌^◌, ◌<◌, ◌≤◌, List, [], ◌∷◌, ◌++◌, length, reverse, bit_and, IsBitSet, refl, sym, ap, subst, ◌∙◌, arith, inl, inr}
use Rattle.std.specs.Int.{bit_not, w16}
use Rattle.std.proofs.lemmas.List.{reverse-append}
use Rattle.picture.specs.Rows.{cell_at, width_of, with_cell}
use Rattle.line_facts.proofs.GridLaws.{shape_with_cell}
use Rattle.line_facts.specs.FactSets.{IsFacts, SameShape}
use Rattle.line_facts.specs.Masks.{Masks}
use Rattle.trail.proofs.GridLemmas.{cell_back}
use Rattle.cert_check.specs.declared.note.CellMask.{CellMask}
use Rattle.cert_check.specs.declared.note.Branch.{Branch}
use Rattle.cert_check.specs.declared.note.Note.{Note}
use Rattle.cert_check.specs.declared.note.Note.TheVariants.{Restore, Wait}
use Rattle.cert_check.specs.Notes.{AreInside, HaveRoom, IsBounded, IsInside, Notes, Spends, behind_of, colours_left, most_notes, numbers_of, with_mask}
use Rattle.cert_check.proofs.BoardLemmas.{same_cell}
use Rattle.cert_check.proofs.BoundLemmas.{colours_fewer, colours_lost, held_all, held_left, most_colours, rest_all, rest_left}

pub newest : (notes more : List Note) (note : Note) → more ≡ notes ++ note ∷ [] → reverse more ≡ note ∷ reverse notes
newest notes more note e = ap reverse e ∙ reverse-append notes (note ∷ [])

abbrev pub cell_of : ℕ → ℕ → ℕ → CellMask
cell_of row col mask = record { row = row; col = col; mask = mask }

abbrev pub branch_of : CellMask → ℕ → Branch
branch_of cell strays = record { cell = cell; strays = strays }

pub most_same : (a b : Masks) (parts : ℕ) → SameShape a b → most_notes (length a) (width_of a) parts ≡ most_notes (length b) (width_of b) parts
most_same a b parts s = ap (λ (h : ℕ). most_notes h (width_of a) parts) s.rows ∙ ap (λ (w : ℕ). most_notes (length b) w parts) (s.each 0)

-- ---- a cell gets a mask

module _ (facts : Masks) (cell : CellMask) (old new : List Note) (is : IsFacts facts) (in_it : IsInside facts cell) (notes : Notes facts cell old new) where
  back : with_mask (with_mask facts cell) (cell_of cell.row cell.col (cell_at facts cell.row cell.col)) ≡ facts
  back = let wide = is.rectangular cell.row in_it.0 in cell_back facts cell.row cell.col cell.mask in_it.0 (omega (arith, wide, in_it.1))

  same : cell_at facts cell.row cell.col ≡ cell.mask → with_mask facts cell ≡ facts
  same e = same_cell facts cell.row cell.col cell.mask in_it.0 in_it.1 is e

  pub behind_noted : behind_of (with_mask facts cell) new ≡ behind_of facts old
  behind_noted = elim notes [
    | inl p ↦ elim p.0 [
      | inl e ↦ ap (behind_of (with_mask facts cell)) p.1 ∙ ap (λ (f : Masks). behind_of f old) (same e)
      | inr none ↦ ap (behind_of (with_mask facts cell)) (p.1 ∙ none) ∙ sym (ap (behind_of facts) none)
    ]
    | inr p ↦ ap (behind_of (with_mask facts cell)) p.2 ∙ ap (λ (f : Masks). behind_of f old) back
  ]

  pub numbers_noted : numbers_of new ≡ numbers_of old
  numbers_noted = elim notes [
    | inl p ↦ ap numbers_of p.1
    | inr p ↦ ap numbers_of p.2
  ]

  pub inside_noted : AreInside facts old → AreInside (with_mask facts cell) new
  inside_noted i = elim notes [
    | inl p ↦ elim p.0 [
      | inl e ↦ rw (p.1, same e) i
      | inr none ↦ rw (p.1, none) tt
    ]
    | inr p ↦
        let shape = shape_with_cell facts cell.row cell.col cell.mask in
        let rows = shape.rows in
        let wide = shape.each 0 in
        let P : List Note → Type 0 = AreInside (with_mask facts cell) in
        subst P (sym p.2) ((omega (arith, in_it.0), omega (arith, in_it.1)), subst (λ (f : Masks). AreInside f old) (sym back) i)
  ]

  pub room_noted : (most : ℕ) → HaveRoom most facts old → HaveRoom most (with_mask facts cell) new
  room_noted most i = elim notes [
    | inl p ↦ elim p.0 [
      | inl e ↦ rw (p.1, same e) i
      | inr none ↦ rw (p.1, none) tt
    ]
    | inr p ↦
        let P : List Note → Type 0 = HaveRoom most (with_mask facts cell) in
        subst P (sym p.2) (p.1, subst (λ (f : Masks). HaveRoom most f old) (sym back) i)
  ]

  pub few_noted : length new ≤ length old + 1
  few_noted = elim notes [
    | inl p ↦ let e = ap length p.1 in omega arith
    | inr p ↦ let e = ap length p.2 in omega arith
  ]

  same_most : (parts : ℕ) → most_notes (length facts) (width_of facts) parts ≡ most_notes (length (with_mask facts cell)) (width_of (with_mask facts cell)) parts
  same_most parts = most_same facts (with_mask facts cell) parts (shape_with_cell facts cell.row cell.col cell.mask)

  -- some of the colours that are left
  pub bounded_held : (parts capacity : ℕ) → IsBounded facts old parts capacity → ((k : ℕ) → IsBitSet cell.mask k → IsBitSet (cell_at facts cell.row cell.col) k)
      → IsBounded (with_mask facts cell) new parts capacity
  bounded_held parts capacity bounded left =
      let fits = bounded.fits in
      let enough = bounded.enough in
      let most = same_most parts in record {
        inside = inside_noted bounded.inside;
        fits = elim notes [
          | inl p ↦ let e = ap length p.1 in let c = colours_fewer facts cell.row cell.col cell.mask in_it.0 in_it.1 is left in omega arith
          | inr p ↦ let e = ap length p.2 in let c = colours_lost facts cell.row cell.col cell.mask in_it.0 in_it.1 is left p.0 in omega arith
        ];
        room = room_noted (capacity - parts) bounded.room;
        enough = subst (λ (n : ℕ). n ≤ capacity) most enough;
      }

  -- a branch begins
  pub bounded_begun : (parts capacity : ℕ) → AreInside facts old → HaveRoom (capacity - parts) facts old → length old + 1 + 2 * colours_left (with_mask facts cell) ≤ capacity - parts
      → most_notes (length facts) (width_of facts) parts ≤ capacity → IsBounded (with_mask facts cell) new parts capacity
  bounded_begun parts capacity inside room begun enough =
      let few = few_noted in
      let most = same_most parts in record {
        inside = inside_noted inside;
        fits = omega arith;
        room = room_noted (capacity - parts) room;
        enough = subst (λ (n : ℕ). n ≤ capacity) most enough;
      }

-- ---- where no branch waits

pub bounded_start : (facts : Masks) (parts capacity : ℕ) → IsFacts facts → most_notes (length facts) (width_of facts) parts ≤ capacity → IsBounded facts [] parts capacity
bounded_start facts parts capacity is enough =
    let few = most_colours facts is in
    record { inside = tt; fits = omega arith; room = tt; enough = enough }

-- no branch waits exactly where there is no note
pub none_behind : (most : ℕ) (facts : Masks) (notes : List Note) → HaveRoom most facts notes → behind_of facts notes ≡ [] → notes ≡ []
none_behind most facts [] room e = refl
none_behind most facts (Restore cell ∷ notes) room e =
    let none = none_behind most (with_mask facts cell) notes room.1 e in
    let some = room.0 in
    absurd (let z = ap length none in omega arith)
none_behind most facts (Wait branch ∷ notes) room e = cc

-- the facts at hand wait as they are
pub bounded_kept : (facts : Masks) (cell : CellMask) (strays parts capacity : ℕ) → IsFacts facts → IsInside facts cell → cell_at facts cell.row cell.col ≡ cell.mask
    → most_notes (length facts) (width_of facts) parts ≤ capacity → IsBounded facts (Wait (branch_of cell strays) ∷ []) parts capacity
bounded_kept facts cell strays parts capacity is inside e enough =
    let few = most_colours facts is in
    let same = ap colours_left (same_cell facts cell.row cell.col cell.mask inside.0 inside.1 is e) in
    record { inside = (inside, tt); fits = omega arith; room = (omega arith, tt); enough = enough }

-- ---- a part

room_more : (few most : ℕ) (facts : Masks) (notes : List Note) → few ≤ most → HaveRoom few facts notes → HaveRoom most facts notes
room_more few most facts [] l room = tt
room_more few most facts (Restore cell ∷ notes) l room = (room.0, room_more few most (with_mask facts cell) notes l room.1)
room_more few most facts (Wait branch ∷ notes) l room = (let r = room.0 in omega arith, room_more few most facts notes l room.1)

module _ (facts : Masks) (row col colours strays parts less capacity : ℕ) (notes : List Note) (is : IsFacts facts) (h : row < length facts) (w : col < width_of facts) (small : colours < 2 ^ 16)
    (bounded : IsBounded facts notes parts capacity)
    (spends : Spends (bit_and (cell_at facts row col) colours) (bit_and (cell_at facts row col) (bit_not w16 colours)) parts less) where
  abbrev left : ℕ
  left = cell_at facts row col

  abbrev held : ℕ
  held = bit_and left colours

  abbrev rest : ℕ
  rest = bit_and left (bit_not w16 colours)

  held_few : colours_left (with_cell facts row col held) ≤ colours_left facts
  held_few = colours_fewer facts row col held h w is (held_left left colours (is.masks row col) small)

  rest_few : colours_left (with_cell facts row col rest) ≤ colours_left facts
  rest_few = colours_fewer facts row col rest h w is (rest_left left colours (is.masks row col) small)

  held_fewer : 0 < rest → colours_left (with_cell facts row col held) + 1 ≤ colours_left facts
  held_fewer some = colours_lost facts row col held h w is (held_left left colours (is.masks row col) small) (λ e. let z = held_all left colours (is.masks row col) small e in omega arith)

  rest_lost : (left ≡ rest → ⊥) → colours_left (with_cell facts row col rest) + 1 ≤ colours_left facts
  rest_lost d = colours_lost facts row col rest h w is (rest_left left colours (is.masks row col) small) d

  rest_fewer : 0 < held → colours_left (with_cell facts row col rest) + 1 ≤ colours_left facts
  rest_fewer some = rest_lost (λ e. let z = rest_all left colours (is.masks row col) small e in omega arith)

  -- there is room for both notes
  pub room_for_one : length notes < capacity
  room_for_one = let fits = bounded.fits in elim spends [
    | inl s ↦ omega arith
    | inr s ↦ let few = rest_fewer s.1 in omega arith
  ]

  pub room_for_two : (left ≡ rest → ⊥) → length notes + 1 < capacity
  room_for_two d = let fits = bounded.fits in let few = rest_lost d in elim spends [
    | inl s ↦ omega arith
    | inr s ↦ omega arith
  ]

  pub bounded_parted : (new : List Note) → Notes facts (cell_of row col rest) (Wait (branch_of (cell_of row col held) strays) ∷ notes) new
      → IsBounded (with_cell facts row col rest) new less capacity
  bounded_parted new n =
      let fits = bounded.fits in
      let enough = bounded.enough in
      let more = Wait (branch_of (cell_of row col held) strays) ∷ notes in
      let most = most_same facts (with_cell facts row col rest) less (shape_with_cell facts row col rest) in
      let begun : length notes + 1 + 2 * colours_left (with_cell facts row col held) ≤ capacity - less = elim spends [
        | inl s ↦ let few = held_few in omega arith
        | inr s ↦ let few = held_fewer s.2 in omega arith
      ] in
      let wider : capacity - parts ≤ capacity - less = elim spends [
        | inl s ↦ omega arith
        | inr s ↦ let e = s.0 in omega arith
      ] in record {
        inside = inside_noted facts (cell_of row col rest) more new is (h, w) n ((h, w), bounded.inside);
        fits = elim n [
          | inl p ↦
              let e = ap length p.1 in
              elim spends [
                | inl s ↦ let few = rest_few in omega arith
                | inr s ↦ let few = rest_fewer s.1 in let same = s.0 in omega arith
              ]
          | inr p ↦
              let e = ap length p.2 in
              let few = rest_lost p.0 in
              elim spends [
                | inl s ↦ omega arith
                | inr s ↦ let same = s.0 in omega arith
              ]
        ];
        room = room_noted facts (cell_of row col rest) more new is (h, w) n (capacity - less) (begun, room_more (capacity - parts) (capacity - less) facts notes wider bounded.room);
        enough = subst (λ (x : ℕ). x ≤ capacity) most (elim spends [
          | inl s ↦ omega arith
          | inr s ↦ let same = s.0 in omega arith
        ]);
      }

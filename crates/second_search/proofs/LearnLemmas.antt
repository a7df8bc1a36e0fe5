-- A part decided with all cells outside of it given: what that says of the part, and which cells these are.
use Rattle.std.proofs.Common.{◌≡◌, ℕ, ◌+◌, ◌<◌, ◌≤◌, ◌↔◌, List, [], length, ap, sym, ◌∙◌, arith, inl, inr}
use Rattle.std.specs.Prelude.{slice_index}
use Rattle.std.proofs.lemmas.Bool.{cases_eq, cases_lt}
use Rattle.std.proofs.lemmas.List.{get_or_past}
use Rattle.picture.specs.declared.line_id.Axis.TheVariants.{Across, Down}
use Rattle.picture.specs.CellSet.{HasCell, PutsCell}
use Rattle.picture.specs.Picture.{IsPicture}
use Rattle.picture.specs.Rows.{width_of, row_at, cell_at, Rows}
use Rattle.picture.proofs.BitLaws.{bit_or_not}
use Rattle.clues.specs.ClueBook.{Clues, clues_of}
use Rattle.clues.specs.Laws.{CluesAreOfLines}
use Rattle.clues.specs.Solution.{IsOther, Solves}
use Rattle.line_facts.specs.Masks.{Masks}
use Rattle.second_search.specs.declared.counting.Ending.TheVariants.{Found, Nothing}
use Rattle.second_search.specs.FixedOrder.{EndsTrue, alone}
use Rattle.second_search.specs.Laws.{FillingsAreOfFacts}
use Rattle.second_search.specs.Learning.{HasOff, IsOutside, PutsOutside}
use Rattle.second_search.specs.Parts.{IsPart, IsScene}
use Rattle.second_search.proofs.PartLemmas.{part_open}
use Rattle.second_search.proofs.PickLemmas.{outside_is_0}

-- no line of a picture with the clues is longer than an engine takes
pub lines_fit : CluesAreOfLines → (clues : Clues) (picture : Rows) (longest : ℕ) → clues_of picture ≡ clues → length clues.rows ≤ longest → length clues.columns ≤ longest
    → (width_of picture ≤ longest) × (length picture ≤ longest)
lines_fit law clues picture longest e tall wide =
    let rows : length clues.rows ≡ length picture = ap (λ (c : Clues). length c.rows) (sym e) ∙ law.sizes picture Across in
    let columns : length clues.columns ≡ width_of picture = ap (λ (c : Clues). length c.columns) (sym e) ∙ law.sizes picture Down in
    ((let q : width_of picture ≤ longest = omega arith in q), (let q : length picture ≤ longest = omega arith in q))

-- ---- what is decided of the part

-- the same solutions, with other givens
solves_with : (clues : Clues) (One Other : ℕ → ℕ → Type 0) (picture other : Rows) → clues_of picture ≡ clues → Solves clues One picture other
    → ((row col : ℕ) → Other row col → cell_at other row col ≡ cell_at picture row col) → Solves (clues_of picture) Other picture other
solves_with clues One Other picture other e s keeps = record { is_picture = s.is_picture; rows = s.rows; columns = s.columns; has_clues = s.has_clues ∙ sym e; keeps_givens = keeps }

pub learnt_none : FillingsAreOfFacts → (clues : Clues) (givens : List ℕ) (facts : Masks) (picture : Rows) → IsScene clues givens facts picture → (cells outside : List ℕ)
    → IsOutside cells picture outside → ((other : Rows) → IsOther (clues_of picture) (HasCell outside) picture other → ⊥) → EndsTrue clues picture (alone cells facts picture) Nothing
learnt_none fillings clues givens facts picture scene cells outside off none other fills differs =
    let filling = (fillings clues givens facts picture other cells scene).1 (fills, differs) in
    none other (record {
      solves = solves_with clues (HasCell givens) (HasCell outside) picture other scene.has_clues filling.is_other.solves (λ row col has. filling.elsewhere row col ((off row col).0 has).2);
      differs = differs;
    })

-- where all cells outside of a part are given, a solution has the picture's colours there
same_outside : (clues : Clues) (picture other : Rows) → IsPicture picture → (cells outside : List ℕ) → IsOutside cells picture outside → Solves clues (HasCell outside) picture other
    → (row col : ℕ) → (HasCell cells row col → ⊥) → cell_at other row col ≡ cell_at picture row col
same_outside clues picture other is cells outside off s row col out = elim (cases_lt col (length (row_at picture row))) [
  | inr past ↦ (let e = s.columns row in outside_is_0 other row col (omega arith)) ∙ sym (outside_is_0 picture row col past)
  | inl l ↦ elim (cases_lt row (length picture)) [
    | inl h ↦ let wide = is.rectangular row h in s.keeps_givens row col ((off row col).1 (h, (let q : col < width_of picture = omega arith in q), out))
    | inr past ↦ absurd (let none : length (row_at picture row) ≡ 0 = ap length (get_or_past picture row [] past) in omega arith)
  ]
]

-- in a given of the scene, too, another such picture has the picture's colour
same_given : (clues : Clues) (givens : List ℕ) (facts : Masks) (picture other : Rows) → IsScene clues givens facts picture → (cells : List ℕ) → IsPart facts cells
    → ((row col : ℕ) → (HasCell cells row col → ⊥) → cell_at other row col ≡ cell_at picture row col) → (row col : ℕ) → HasCell givens row col
    → cell_at other row col ≡ cell_at picture row col
same_given clues givens facts picture other scene cells part same row col given = elim (bit_or_not (slice_index cells row) col) [
  | inr out ↦ same row col out
  | inl has ↦
      let two = part_open facts cells row col part has in
      let hold = scene.sound.hold_givens row col in
      absurd (two.4 (hold two.0 given two.2 ∙ sym (hold two.1 given two.3)))
]

pub learnt_one : FillingsAreOfFacts → (clues : Clues) (givens : List ℕ) (facts : Masks) (picture : Rows) → IsScene clues givens facts picture → (cells outside : List ℕ) → IsPart facts cells
    → IsOutside cells picture outside → (other : Rows) → IsOther (clues_of picture) (HasCell outside) picture other → EndsTrue clues picture (alone cells facts picture) (Found other)
learnt_one fillings clues givens facts picture scene cells outside part off other o =
    let same = same_outside (clues_of picture) picture other scene.is_picture cells outside off o.solves in
    (fillings clues givens facts picture other cells scene).0 (record {
      is_other = record {
        solves = record {
          is_picture = o.solves.is_picture;
          rows = o.solves.rows;
          columns = o.solves.columns;
          has_clues = o.solves.has_clues ∙ scene.has_clues;
          keeps_givens = same_given clues givens facts picture other scene cells part same;
        };
        differs = o.differs;
      };
      elsewhere = same;
    })

-- ---- the cells outside of a part

pub none_put : (cells outside : List ℕ) (row : ℕ) → PutsOutside cells row 0 outside outside
none_put cells outside row r c = ((λ h. inl h), (λ h. elim h [ inl old ↦ old | inr p ↦ let l = p.1 in absurd (omega arith) ]))

-- one more cell of a row is put in
pub one_put : (cells old outside new : List ℕ) (row col : ℕ) → (HasCell cells row col → ⊥) → PutsOutside cells row col old outside → PutsCell outside new row col
    → PutsOutside cells row (col + 1) old new
one_put cells old outside new row col out so_far put r c = (
  (λ h. elim ((put r c).0 h) [
    | inl before ↦ elim ((so_far r c).0 before) [
      | inl is ↦ inl is
      | inr p ↦ inr (p.0, (let l = p.1 in let q : c < col + 1 = omega arith in q), p.2)
    ]
    | inr e ↦ inr (e.0, (let f = e.1 in let q : c < col + 1 = omega arith in q), rw (e.0, e.1) out)
  ]),
  (λ h. elim h [
    | inl is ↦ (put r c).1 (inl ((so_far r c).1 (inl is)))
    | inr p ↦ elim (cases_lt c col) [
      | inl l ↦ (put r c).1 (inl ((so_far r c).1 (inr (p.0, l, p.2))))
      | inr past ↦ (put r c).1 (inr (p.0, (let l = p.1 in let e : c ≡ col = omega arith in e)))
    ]
  ]),
)

-- one more cell of a row is not put in
pub one_left : (cells old outside : List ℕ) (row col : ℕ) → HasCell cells row col → PutsOutside cells row col old outside → PutsOutside cells row (col + 1) old outside
one_left cells old outside row col has so_far r c = (
  (λ h. elim ((so_far r c).0 h) [
    | inl is ↦ inl is
    | inr p ↦ inr (p.0, (let l = p.1 in let q : c < col + 1 = omega arith in q), p.2)
  ]),
  (λ h. elim h [
    | inl is ↦ (so_far r c).1 (inl is)
    | inr p ↦ elim (cases_lt c col) [
      | inl l ↦ (so_far r c).1 (inr (p.0, l, p.2))
      | inr past ↦ let e : c ≡ col = (let l = p.1 in omega arith) in absurd (p.2 (rw (p.0, e) has))
    ]
  ]),
)

pub none_off : (cells outside : List ℕ) (width : ℕ) → ((row col : ℕ) → HasCell outside row col → ⊥) → HasOff cells 0 width outside
none_off cells outside width none row col = ((λ h. absurd (none row col h)), (λ h. let l = h.0 in absurd (omega arith)))

-- one more row is put in
pub row_put_outside : (cells old new : List ℕ) (row width : ℕ) → HasOff cells row width old → PutsOutside cells row width old new → HasOff cells (row + 1) width new
row_put_outside cells old new row width so_far put r c = (
  (λ h. elim ((put r c).0 h) [
    | inl before ↦ let is = (so_far r c).0 before in ((let l = is.0 in let q : r < row + 1 = omega arith in q), is.1, is.2)
    | inr p ↦ ((let e = p.0 in let q : r < row + 1 = omega arith in q), p.1, p.2)
  ]),
  (λ h. elim (cases_eq r row) [
    | inl e ↦ (put r c).1 (inr (e, h.1, h.2))
    | inr d ↦ (put r c).1 (inl ((so_far r c).1 ((let l = h.0 in let q : r < row = omega arith in q), h.1, h.2)))
  ]),
)

-- Parts, and pictures that differ on one of them alone.
use Rattle.std.proofs.Common.{◌≡◌, ℕ, ◌<◌, ◌⊎◌, ◌↔◌, List, length, refl, sym, ap, subst, ◌∙◌, arith, inl, inr}
use Rattle.std.specs.Prelude.{IsBitSet, slice_index}
use Rattle.std.proofs.lemmas.Bool.{cases_eq, cases_lt}
use Rattle.picture.specs.declared.line_id.Axis.{Axis}
use Rattle.picture.specs.declared.line_id.Axis.TheVariants.{Across, Down}
use Rattle.picture.specs.declared.line_id.LineId.{LineId}
use Rattle.picture.specs.declared.picture.TheConstants.{MAX_COLOURS, MAX_SIDE}
use Rattle.picture.specs.CellSet.{IsCellSet, HasCell}
use Rattle.picture.specs.Laws.{CellsAreMembers}
use Rattle.picture.specs.Picture.{IsPicture}
use Rattle.picture.specs.Rows.{width_of, row_at, cell_at, line_of, HasLine, Rows}
use Rattle.clues.specs.Clue.{clue_of}
use Rattle.clues.specs.ClueBook.{Clues}
use Rattle.clues.specs.Laws.{BooksAreTheirClues, CluesAreOfLines, IsOnLine}
use Rattle.clues.specs.Solution.{IsOther, Solves}
use Rattle.line_facts.specs.FactSets.{SameShape}
use Rattle.line_facts.specs.Masks.{IsOnly, Masks}
use Rattle.line_facts.proofs.SolutionLaws.{solved_shape}
use Rattle.fixpoint.specs.Fillings.{Fills, only}
use Rattle.fixpoint.specs.Laws.{OnlyIsClosed}
use Rattle.second_search.specs.Laws.{FillingsAreOfFacts, PartsAreApart, PartsDecide}
use Rattle.second_search.specs.Parts.{AreParts, GoesThrough, IsBefore, IsOpenCell, IsOtherFilling, IsPart, IsScene, goes_on, part_at, picked}
use Rattle.second_search.proofs.ChainLemmas.{chain_back, chain_end, chain_on, none_has_two}
use Rattle.second_search.proofs.GrowLemmas.{on_one_line}
use Rattle.second_search.proofs.PickLemmas.{clue_known, differing_cell, find_below, off_part, on_cells, outside_is_0, rect_like, same_along, same_clues, same_count, shape_of_picked}
use Rattle.line_facts.proofs.GridLaws.{shape_sym, shape_trans, same_line_length}
use Rattle.picture.proofs.BitLaws.{bit_or_not}
use Rattle.trail.proofs.GridLemmas.{row_there}

-- ---- parts

-- a part has each open cell of a line through one of its cells
pub whole_lines : (facts : Masks) (cells : List ℕ) (line : LineId) (row col : ℕ) → IsPart facts cells → GoesThrough line cells → IsOnLine line row col → IsOpenCell facts row col
    → HasCell cells row col
whole_lines facts cells line row col p t on o =
    (p.from.members row col).1 (goes_on t.row t.col row col ((p.from.members t.row t.col).0 t.has) (on_one_line line.axis line.at t.row t.col row col t.on_line on) o)

pub part_open : (facts : Masks) (cells : List ℕ) (row col : ℕ) → IsPart facts cells → HasCell cells row col → IsOpenCell facts row col
part_open facts cells row col p h = chain_end facts p.row p.col row col ((p.from.members row col).0 h)

-- of two parts that share a cell neither begins before the other
no_earlier : (facts : Masks) (one other : List ℕ) (row col : ℕ) (p : IsPart facts one) (q : IsPart facts other) → HasCell one row col → HasCell other row col → IsBefore p.row p.col q.row q.col → ⊥
no_earlier facts one other row col p q h k before =
    q.from.first p.row p.col
    ((q.from.members p.row p.col).1 (chain_on facts q.row q.col row col p.row p.col ((q.from.members row col).0 k) (chain_back facts p.row p.col row col ((p.from.members row col).0 h)))) before

pub one_part_each : (facts : Masks) (parts : List (List ℕ)) → AreParts facts parts → (i j row col : ℕ) → i < length parts → j < length parts → HasCell (part_at parts i) row col
    → HasCell (part_at parts j) row col → i ≡ j
one_part_each facts parts a i j row col l m h k =
    let p = a.each i l in
    let q = a.each j m in
    elim (cases_lt i j) [
      | inl less ↦ absurd (no_earlier facts (part_at parts i) (part_at parts j) row col p q h k (a.ordered i j p.row p.col q.row q.col less m p.from q.from))
      | inr no_less ↦ elim (cases_lt j i) [
        | inl more ↦ absurd (no_earlier facts (part_at parts j) (part_at parts i) row col q p k h (a.ordered j i q.row q.col p.row p.col more l q.from p.from))
        | inr no_more ↦ omega arith
      ]
    ]

-- whether a line goes through one of the cells
through_at : (cells : List ℕ) (axis : Axis) (at : ℕ) → CellsAreMembers → IsCellSet cells
    → GoesThrough (record { axis = axis; at = at }) cells ⊎ (GoesThrough (record { axis = axis; at = at }) cells → ⊥)
through_at cells Across at members set = elim (find_below (λ c. HasCell cells at c) (λ c. members.decided cells at c) MAX_SIDE) [
  | inl found ↦ inl (record { row = at; col = found.0; has = found.1.1; on_line = refl })
  | inr none ↦ inr (λ t.
      none t.col (members.inside cells t.row t.col set t.has).1 (subst (λ (r : ℕ). HasCell cells r t.col) t.on_line t.has))
]
through_at cells Down at members set = elim (find_below (λ r. HasCell cells r at) (λ r. members.decided cells r at) MAX_SIDE) [
  | inl found ↦ inl (record { row = found.0; col = at; has = found.1.1; on_line = refl })
  | inr none ↦ inr (λ t.
      none t.row (members.inside cells t.row t.col set t.has).0 (subst (λ (c : ℕ). HasCell cells t.row c) t.on_line t.has))
]

pub through_or_not : (cells : List ℕ) (line : LineId) → CellsAreMembers → IsCellSet cells → GoesThrough line cells ⊎ (GoesThrough line cells → ⊥)
through_or_not cells line members set = through_at cells line.axis line.at members set

-- ---- pictures

-- a picked grid of two pictures is a picture
pub picked_picture : (cells : List ℕ) (one : List (List ℕ)) (other : Rows) → ((row col : ℕ) → cell_at one row col < MAX_COLOURS) → IsPicture other
    → ((row col : ℕ) → HasCell cells row col → cell_at (picked cells one other) row col ≡ cell_at one row col) → IsPicture (picked cells one other)
picked_picture cells one other few q on =
    let t = shape_of_picked cells one other q.rectangular in
    let first : width_of (picked cells one other) ≡ width_of other = t.each 0 in
    record {
      has_row = omega arith;
      rows_fit = omega arith;
      has_column = omega arith;
      columns_fit = omega arith;
      rectangular = λ i l. t.each i ∙ (q.rectangular i (omega arith) ∙ sym first);
      colours = λ i j. elim (bit_or_not (slice_index cells i) j) [
        | inl h ↦ rw (on i j h) (few i j)
        | inr n ↦ rw (off_part cells one other i j q.rectangular n) (q.colours i j)
      ];
    }

-- the picture of a scene is one of its solutions
pub solves_itself : (clues : Clues) (givens : List ℕ) (facts : Masks) (picture : Rows) → IsScene clues givens facts picture → Solves clues (HasCell givens) picture picture
solves_itself clues givens facts picture s = record {
  is_picture = s.is_picture;
  rows = refl;
  columns = λ row. refl;
  has_clues = s.has_clues;
  keeps_givens = λ row col g. refl;
}

-- a cell at which another picture differs is open
pub differs_open : (clues : Clues) (givens : List ℕ) (facts : Masks) (picture other : Rows) (row col : ℕ) → IsScene clues givens facts picture → Solves clues (HasCell givens) picture other
    → (cell_at other row col ≡ cell_at picture row col → ⊥) → IsOpenCell facts row col
differs_open clues givens facts picture other row col s o d =
    elim (cases_lt col (length (row_at other row))) [
      | inl l ↦ (
        cell_at other row col,
        cell_at picture row col,
        s.sound.leave other o row col l,
        s.sound.leave picture (solves_itself clues givens facts picture s) row col (omega arith),
        d,
      )
      | inr p ↦ absurd (d (outside_is_0 other row col p ∙ sym (outside_is_0 picture row col (omega arith))))
    ]

-- off a part, a line through it has no cell at which another picture differs
pub same_off_part : (clues : Clues) (givens : List ℕ) (facts : Masks) (picture other : Rows) (cells : List ℕ) (line : LineId) (row col : ℕ) → IsScene clues givens facts picture → IsPart facts cells
    → Solves clues (HasCell givens) picture other → GoesThrough line cells → IsOnLine line row col → (HasCell cells row col → ⊥) → cell_at other row col ≡ cell_at picture row col
same_off_part clues givens facts picture other cells line row col s p o t on n = elim (cases_eq (cell_at other row col) (cell_at picture row col)) [
  | inl e ↦ e
  | inr d ↦ absurd (n (whole_lines facts cells line row col p t on (differs_open clues givens facts picture other row col s o d)))
]

-- an open cell lies in the picture
pub open_in_picture : (clues : Clues) (givens : List ℕ) (facts : Masks) (picture : Rows) (row col : ℕ) → IsScene clues givens facts picture → IsOpenCell facts row col
    → (row < length picture) × (col < width_of picture)
open_in_picture clues givens facts picture row col s o =
    let near : col < length (row_at picture row) = elim (cases_lt col (length (row_at facts row))) [
      | inl l ↦ omega arith
      | inr p ↦ absurd (none_has_two (cell_at facts row col) (outside_is_0 facts row col p) o)
    ] in
    let l = row_there picture row col near in
    (l, (let w = s.is_picture.rectangular row l in omega arith))

-- in a cell of the picture that is not open only its colour is left
pub settled_there : (clues : Clues) (givens : List ℕ) (facts : Masks) (picture : Rows) (row col : ℕ) → IsScene clues givens facts picture → row < length picture → col < width_of picture
    → (IsOpenCell facts row col → ⊥) → IsOnly (cell_at facts row col) (cell_at picture row col)
settled_there clues givens facts picture row col s l m n =
    let own = s.sound.leave picture (solves_itself clues givens facts picture s) row col (let w = s.is_picture.rectangular row l in omega arith) in
    λ j. (
      (λ is. elim (cases_eq j (cell_at picture row col)) [
        | inl e ↦ e
        | inr d ↦ absurd (n (j, cell_at picture row col, is, own, d))
      ]),
      (λ e. let P : ℕ → Type 0 = λ k. IsBitSet (cell_at facts row col) k in subst P (sym e) own),
    )

-- ---- another picture on one part

pub one_filling : CluesAreOfLines → BooksAreTheirClues → CellsAreMembers → (clues : Clues) (givens : List ℕ) (facts : Masks) (picture other : Rows) (cells : List ℕ) (row col : ℕ)
    → IsScene clues givens facts picture → IsPart facts cells → IsOther clues (HasCell givens) picture other
    → HasCell cells row col → (cell_at other row col ≡ cell_at picture row col → ⊥) → IsOtherFilling clues givens picture cells (picked cells other picture)
one_filling of_lines books members clues givens facts picture other cells row col s p o h d =
    let new = picked cells other picture in
    let rect = s.is_picture.rectangular in
    let shape = shape_of_picked cells other picture rect in
    let of_other = solved_shape o.solves in
    let like_other = shape_trans shape (shape_sym of_other) in
    let on : (r c : ℕ) → HasCell cells r c → cell_at new r c ≡ cell_at other r c = λ r c x. on_cells cells other picture r c rect of_other x in
    let off : (r c : ℕ) → (HasCell cells r c → ⊥) → cell_at new r c ≡ cell_at picture r c = λ r c n. off_part cells other picture r c rect n in
    let clue : (line : LineId) → HasLine new line → clue_of (line_of new line) ≡ clue_of (line_of picture line) = λ line has. elim (through_or_not cells line members p.from.set) [
      | inl t ↦
          let same = same_along new other line.axis line.at (sym (same_line_length new other line like_other)) (λ r c at. elim (bit_or_not (slice_index cells r) c) [
            | inl x ↦ on r c x
            | inr n ↦ off r c n ∙ sym (same_off_part clues givens facts picture other cells line r c s p o.solves t at n)
          ]) in
          let n = same_count new other like_other line.axis in
          let m = same_count new picture shape line.axis in
          ap clue_of same ∙ (clue_known of_lines clues other line o.solves.has_clues (omega arith) ∙ sym (clue_known of_lines clues picture line s.has_clues (omega arith)))
      | inr none ↦
          ap clue_of (same_along new picture line.axis line.at (sym (same_line_length new picture line shape)) (λ r c at. off r c (λ x. none (record { row = r; col = c; has = x; on_line = at }))))
    ] in
    record {
      is_other = record {
        solves = record {
          is_picture = picked_picture cells other picture o.solves.is_picture.colours s.is_picture on;
          rows = shape.rows;
          columns = shape.each;
          has_clues = same_clues of_lines books new picture shape clue ∙ s.has_clues;
          keeps_givens = λ r c g. elim (bit_or_not (slice_index cells r) c) [ inl x ↦ on r c x ∙ o.solves.keeps_givens r c g | inr n ↦ off r c n ];
        };
        differs = λ e. d (sym (on row col h) ∙ ap (λ x. cell_at x row col) e);
      };
      elsewhere = off;
    }

pub some_filling : CluesAreOfLines → BooksAreTheirClues → CellsAreMembers → (clues : Clues) (givens : List ℕ) (facts : Masks) (picture : Rows) (parts : List (List ℕ))
    → IsScene clues givens facts picture → AreParts facts parts
    → ((other : Rows) × IsOther clues (HasCell givens) picture other) ↔ ((i : ℕ) × ((i < length parts) × ((other : Rows) × IsOtherFilling clues givens picture (part_at parts i) other)))
some_filling of_lines books members clues givens facts picture parts s a = (
  (λ x.
      let other = x.0 in
      let cell = differing_cell other picture (solved_shape x.1.solves) x.1.differs in
      let row = cell.0 in
      let col = cell.1.0 in
      let held = a.all row col (differs_open clues givens facts picture other row col s x.1.solves cell.1.1) in (
        held.0,
        (
          held.1.0,
          (
            picked (part_at parts held.0) other picture,
            one_filling of_lines books members clues givens facts picture other (part_at parts held.0) row col s (a.each held.0 held.1.0) x.1 held.1.1 cell.1.1,
          ),
        ),
      )),
  (λ x. (x.1.1.0, x.1.1.1.is_other)),
)

-- ---- the facts on a part

pub facts_filled : OnlyIsClosed → FillingsAreOfFacts
facts_filled closed clues givens facts picture other cells s =
    let alone = only picture in
    let like = closed.same_shape picture in
    let rect = rect_like picture alone like s.is_picture.rectangular in
    let facts_like = shape_trans (shape_sym s.sound.same_shape) like in
    let shape = shape_of_picked cells facts alone rect in
    let on : (r c : ℕ) → HasCell cells r c → cell_at (picked cells facts alone) r c ≡ cell_at facts r c = λ r c x. on_cells cells facts alone r c rect facts_like x in
    let off : (r c : ℕ) → (HasCell cells r c → ⊥) → cell_at (picked cells facts alone) r c ≡ cell_at alone r c = λ r c n. off_part cells facts alone r c rect n in (
      (λ f. (
        record {
          is_picture = f.is_other.solves.is_picture;
          same_shape = shape_trans (solved_shape f.is_other.solves) (shape_trans like (shape_sym shape));
          has_clues = f.is_other.solves.has_clues;
          leaves = λ r c l.
              elim (bit_or_not (slice_index cells r) c) [
                | inl x ↦ rw (on r c x) (s.sound.leave other f.is_other.solves r c l)
                | inr n ↦ rw (off r c n) ((closed.leaves picture r c (cell_at other r c)).1 (omega arith, f.elsewhere r c n))
              ];
        },
        f.is_other.differs,
      )),
      (λ x. filled_back clues givens facts picture other cells s closed alone (shape_trans x.0.same_shape (shape_trans shape (shape_sym like))) on off x.0 x.1),
    )
  where
    filled_back : (clues : Clues) (givens : List ℕ) (facts : Masks) (picture other : Rows) (cells : List ℕ) → IsScene clues givens facts picture → OnlyIsClosed → (alone : List (List ℕ))
        → SameShape other picture
        → ((r c : ℕ) → HasCell cells r c → cell_at (picked cells facts (only picture)) r c ≡ cell_at facts r c)
        → ((r c : ℕ) → (HasCell cells r c → ⊥) → cell_at (picked cells facts (only picture)) r c ≡ cell_at (only picture) r c)
        → Fills clues (picked cells facts (only picture)) other → (other ≡ picture → ⊥) → IsOtherFilling clues givens picture cells other
    filled_back clues givens facts picture other cells s closed alone same on off fills d =
        let elsewhere : (r c : ℕ) → (HasCell cells r c → ⊥) → cell_at other r c ≡ cell_at picture r c = λ r c n.
        elim (cases_lt c (length (row_at other r))) [
          | inl l ↦ ((closed.leaves picture r c (cell_at other r c)).0 (rw (off r c n) at (fills.leaves r c l))).1
          | inr p ↦ outside_is_0 other r c p ∙ sym (outside_is_0 picture r c (omega arith))
        ] in
        record {
          is_other = record {
            solves = record {
              is_picture = fills.is_picture;
              rows = same.rows;
              columns = same.each;
              has_clues = fills.has_clues;
              keeps_givens = λ r c g. elim (bit_or_not (slice_index cells r) c) [
                | inr n ↦ elsewhere r c n
                | inl x ↦
                    elim (cases_lt c (length (row_at other r))) [
                      | inl l ↦ s.sound.hold_givens r c (cell_at other r c) g (rw (on r c x) at (fills.leaves r c l))
                      | inr p ↦ outside_is_0 other r c p ∙ sym (outside_is_0 picture r c (omega arith))
                    ]
              ];
            };
            differs = d;
          };
          elsewhere = elsewhere;
        }

-- ---- the laws of parts

pub apart : PartsAreApart
apart = record {
  one = one_part_each;
  whole_lines = whole_lines;
  open_cells = part_open;
  inside = open_in_picture;
  settled = settled_there;
}

pub decide : CluesAreOfLines → BooksAreTheirClues → CellsAreMembers → PartsDecide
decide of_lines books members = record { one_part = one_filling of_lines books members; some_part = some_filling of_lines books members }

-- The facts that leave only one picture, and the pictures that facts allow.
use Rattle.std.proofs.Common.{◌≡◌, ℕ, ◌^◌, ◌<◌, ◌≤◌, List, [], length, get_or, map, refl, sym, ap, subst, ◌∙◌, arith, inl, inr}
use Rattle.std.specs.Prelude.{IsBitSet}
use Rattle.std.proofs.lemmas.Bool.{cases_lt}
use Rattle.std.proofs.lemmas.List.{get_or_past, length-map, get_or-map}
use Rattle.line_facts.specs.Masks.{Masks}
use Rattle.picture.specs.declared.line_id.Axis.{Axis}
use Rattle.picture.specs.declared.line_id.Axis.TheVariants.{Across, Down}
use Rattle.picture.specs.Picture.{IsPicture}
use Rattle.picture.specs.declared.line_id.LineId.{LineId}
use Rattle.picture.specs.Rows.{row_at, cell_at, line_along, line_of, lines_along, HasLine, Rows}
use Rattle.clues.specs.ClueBook.{Clues, clue_at, clues_of}
use Rattle.line_facts.specs.FactSets.{IsClosed, IsWithin, SameShape, Leaves, row_on, col_on}
use Rattle.line_facts.specs.Fits.{CanFit, Fits}
use Rattle.fixpoint.specs.Fillings.{Fills, LeavesPicture, only}
use Rattle.fixpoint.proofs.FillingLaws.{fills_fewer}
use Rattle.fixpoint.specs.Laws.{ClosingKeepsFillings, OnlyIsClosed, PictureStays}
use Rattle.clues.proofs.BookLaws.{clue_at-clues_of}
use Rattle.picture.proofs.BitLaws.{no_bit, power_has}
use Rattle.line_facts.proofs.GridLaws.{cell_on, same_line_length, same_has_line, shape_sym, shape_trans}

abbrev powers : List ℕ → List ℕ
powers row = map (λ (colour : ℕ). 2 ^ colour) row

only_row : (picture : Rows) (i : ℕ) → row_at (only picture) i ≡ powers (row_at picture i)
unfolding only
only_row picture i = elim (cases_lt i (length picture)) [
  | inl l ↦ get_or-map powers picture i [] [] l
  | inr p ↦ get_or_past (only picture) i [] (let m = length-map picture powers in omega arith) ∙ ap powers (sym (get_or_past picture i [] p))
]

only_shape : (picture : Rows) → SameShape picture (only picture)
unfolding only
only_shape picture = record {
  rows = sym (length-map picture powers);
  each = λ i. sym (ap length (only_row picture i) ∙ length-map (row_at picture i) (λ (x : ℕ). 2 ^ x));
}

only_cell : (picture : Rows) (i j : ℕ) → j < length (row_at picture i) → cell_at (only picture) i j ≡ 2 ^ cell_at picture i j
only_cell picture i j l = ap (λ (row : List ℕ). get_or row j 0) (only_row picture i) ∙ get_or-map (λ (x : ℕ). 2 ^ x) (row_at picture i) j 0 0 l

only_past : (picture : Rows) (i j : ℕ) → length (row_at picture i) ≤ j → cell_at (only picture) i j ≡ 0
only_past picture i j p = get_or_past (row_at (only picture) i) j 0 (let e = (only_shape picture).each i in omega arith)

-- a cell whose colour is left lies in the picture, and the colour is its own
record Own (picture : Rows) (i j k : ℕ) : Type 0 where
  inside : j < length (row_at picture i)
  own : k ≡ cell_at picture i j

own_colour : (picture : Rows) (i j k : ℕ) → Leaves (only picture) i j k → Own picture i j k
own_colour picture i j k s =
    let P : ℕ → Type 0 = λ m. IsBitSet m k in
    elim (cases_lt j (length (row_at picture i))) [
      | inl l ↦ record { inside = l; own = (power_has (cell_at picture i j) k).0 (subst P (only_cell picture i j l) s) }
      | inr p ↦ absurd (no_bit k (subst P (only_past picture i j p) s))
    ]

has_own : (picture : Rows) (i j : ℕ) → j < length (row_at picture i) → Leaves (only picture) i j (cell_at picture i j)
has_own picture i j l = let P : ℕ → Type 0 = λ m. IsBitSet m (cell_at picture i j) in subst P (sym (only_cell picture i j l)) ((power_has (cell_at picture i j) (cell_at picture i j)).1 refl)

along_inside : (axis : Axis) (at i : ℕ) (picture : Rows) → IsPicture picture → at < lines_along axis picture → i < length (line_along axis at picture)
    → col_on axis at i < length (row_at picture (row_on axis at i))
along_inside Across at i picture is h l = l
along_inside Down at i picture is h l =
    let m = length-map picture (λ (row : List ℕ). get_or row at 0) in
    let r = is.rectangular i (omega arith) in
    omega arith

-- a line of the picture fits that line of the facts that leave only the picture
own_line : (picture : Rows) → IsPicture picture → (line : LineId) → HasLine picture line → Fits (clue_at (clues_of picture) line) (line_of (only picture) line) (line_of picture line)
own_line picture is line has =
    let len = same_line_length picture (only picture) line (only_shape picture) in
    record {
      same_length = sym len;
      has_clue = sym (clue_at-clues_of picture line has);
      keeps = λ j l.
          let q = along_inside line.axis line.at j picture is has (omega arith) in
          let left = has_own picture (row_on line.axis line.at j) (col_on line.axis line.at j) q in
          rw (cell_on picture line j) (rw (cell_on (only picture) line j) left);
    }

only_closed : (picture : Rows) → IsPicture picture → IsClosed (clues_of picture) (only picture)
only_closed picture is line has i k s =
    let P : ℕ → Type 0 = λ m. IsBitSet m k in
    let own = own_colour picture (row_on line.axis line.at i) (col_on line.axis line.at i) k (subst P (cell_on (only picture) line i) s) in
    record {
      line = line_of picture line;
      fits = own_line picture is line (same_has_line (only picture) picture line (shape_sym (only_shape picture)) has);
      within = elim (cases_lt i (length (line_of (only picture) line))) [
        | inl l ↦ l
        | inr p ↦ absurd (no_bit k (subst P (get_or_past (line_of (only picture) line) i 0 p) s))
      ];
      has = cell_on picture line i ∙ sym own.own;
    }

-- what facts that leave a picture exclude, those that leave only the picture exclude too
within_only : (picture : Rows) (facts : Masks) → SameShape picture facts → LeavesPicture picture facts → IsWithin facts (only picture)
within_only picture facts shape leaves = record {
  same_shape = shape_trans (shape_sym shape) (only_shape picture);
  leaves = λ i j k s.
      let own = own_colour picture i j k s in
      rw own.own (leaves i j own.inside);
}

leaves_within : (picture : Rows) (facts : Masks) → IsWithin facts (only picture) → LeavesPicture picture facts
leaves_within picture facts w row col inside = w.leaves row col (cell_at picture row col) (has_own picture row col inside)

pub only_is_closed : OnlyIsClosed
only_is_closed = record {
  same_shape = only_shape;
  leaves = λ picture row col k. (
    (λ s. let own = own_colour picture row col k s in (own.inside, own.own)),
    (λ p. let P : ℕ → Type 0 = λ x. Leaves (only picture) row col x in subst P (sym p.1) (has_own picture row col p.0)),
  );
  closed = only_closed;
  within = λ picture facts shape. (within_only picture facts shape, leaves_within picture facts);
}

pub picture_stays : PictureStays
picture_stays picture base facts is shape leaves least =
    leaves_within picture facts (least.least (only picture) (only_closed picture is) (within_only picture base shape leaves))

-- ---- pictures with given clues

fills_closed : (clues : Clues) (facts : Masks) (picture : Rows) → Fills clues facts picture → IsClosed clues (only picture)
fills_closed clues facts picture f = let P : Clues → Type 0 = λ c. IsClosed c (only picture) in subst P f.has_clues (only_closed picture f.is_picture)

fills_within : (clues : Clues) (facts : Masks) (picture : Rows) → Fills clues facts picture → IsWithin facts (only picture)
fills_within clues facts picture f = within_only picture facts f.same_shape f.leaves

-- a picture that fills facts fills all facts of that shape that exclude none of its colours
fills_more : (clues : Clues) (base facts : Masks) (picture : Rows) → SameShape base facts → IsWithin facts (only picture) → Fills clues base picture → Fills clues facts picture
fills_more clues base facts picture shape w f = record {
  is_picture = f.is_picture;
  same_shape = shape_trans f.same_shape shape;
  has_clues = f.has_clues;
  leaves = leaves_within picture facts w;
}

-- each line of a picture fits the facts that leave only the picture
fits_only : (clues : Clues) (facts : Masks) (picture : Rows) (line : LineId) → Fills clues facts picture → HasLine facts line → CanFit (clue_at clues line) (line_of (only picture) line)
fits_only clues facts picture line f has =
    rw (← f.has_clues) (line_of picture line, own_line picture f.is_picture line (same_has_line facts picture line (shape_sym f.same_shape) has))

pub closing_keeps_fillings : ClosingKeepsFillings
closing_keeps_fillings = record {
  stays = λ clues base facts outcome picture c. (
    (λ f. fills_more clues base facts picture c.holds.same_shape (c.inside (only picture) (fills_closed clues base picture f) (fills_within clues base picture f)) f),
    (λ f. fills_fewer clues base facts picture c.holds f),
  );
  least = λ clues base facts picture c. (
    (λ f. fills_more clues base facts picture c.holds.same_shape (c.least (only picture) (fills_closed clues base picture f) (fills_within clues base picture f)) f),
    (λ f. fills_fewer clues base facts picture c.holds f),
  );
  none_where_dead = λ clues base picture d f. d.dead (only picture) (fills_closed clues base picture f) (fills_within clues base picture f) (fits_only clues base picture d.line f d.has);
}

pub ruleset laws = (picture_stays, only_is_closed, closing_keeps_fillings)

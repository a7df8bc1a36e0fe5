-- A part as it grows: what stays true as cells come in and lines are visited, and what it is when no line waits.
use Rattle.std.proofs.Common.{◌≡◌, ℕ, ◌+◌, ◌<◌, ◌⊎◌, ◌↔◌, List, length, get_or, refl, sym, ap, subst, ◌∙◌, arith, inl, inr}
use Rattle.std.proofs.lemmas.Bool.{cases_eq}
use Rattle.std.proofs.lemmas.List.{length-map}
use Rattle.line_facts.specs.Masks.{Masks}
use Rattle.picture.specs.declared.line_id.Axis.{Axis}
use Rattle.picture.specs.declared.line_id.Axis.TheVariants.{Across, Down}
use Rattle.picture.specs.declared.line_id.LineId.{LineId}
use Rattle.picture.specs.CellSet.{HasCell}
use Rattle.picture.specs.LineSet.{HasName, Lines}
use Rattle.picture.specs.Rows.{width_of, lines_along, line_along, line_of, HasLine}
use Rattle.clues.specs.Laws.{IsOnLine, IsAtPlace}
use Rattle.line_facts.specs.FactSets.{IsFacts, col_on, row_on}
use Rattle.fixpoint.specs.LineNames.{AllLines}
use Rattle.second_search.specs.declared.parts.growth.Growth.{Growth}
use Rattle.second_search.specs.GrownParts.{HasOpenCellsOf, IsGrown, Leaves, TakesIn}
use Rattle.second_search.specs.Parts.{IsChained, IsOpenCell, begins, goes_on}
use Rattle.second_search.proofs.ChainLemmas.{ShareLine, open_inside}
use Rattle.second_search.proofs.LookLemmas.{below_next}

-- ---- lines

same_axis : (one other : Axis) → (one ≡ other) ⊎ (one ≡ other → ⊥)
same_axis Across Across = inl refl
same_axis Down Down = inl refl
same_axis Across Down = inr (λ (e : Across ≡ Down). absurd cc)
same_axis Down Across = inr (λ (e : Down ≡ Across). absurd cc)

abbrev pub line_named : Axis → ℕ → LineId
line_named axis at = record { axis = axis; at = at }

pub same_line : (one other : LineId) → (one ≡ other) ⊎ (one ≡ other → ⊥)
same_line one other = elim (same_axis one.axis other.axis) [
  | inr d ↦ inr (λ e. d (ap (λ (line : LineId). line.axis) e))
  | inl e ↦ elim (cases_eq one.at other.at) [
    | inr d ↦ inr (λ e. d (ap (λ (line : LineId). line.at) e))
    | inl f ↦ inl (let a : line_named one.axis one.at ≡ line_named other.axis one.at = ap (λ x. line_named x one.at) e in a ∙ ap (line_named other.axis) f)
  ]
]

-- a line of the grid that goes through a cell inside it
pub line_inside : (facts : Masks) (row col : ℕ) → row < length facts → col < width_of facts → (axis : Axis) (at : ℕ) → IsAtPlace axis at row col → at < lines_along axis facts
line_inside facts row col h w Across at e = omega arith
line_inside facts row col h w Down at e = omega arith

-- two cells on one line share a row or a column
pub on_one_line : (axis : Axis) (at row col r c : ℕ) → IsAtPlace axis at row col → IsAtPlace axis at r c → ShareLine row col r c
on_one_line Across at row col r c e f = inl (e ∙ sym f)
on_one_line Down at row col r c e f = inr (e ∙ sym f)

-- a cell on a line has a place there
pub at_place : (axis : Axis) (at row col : ℕ) → IsAtPlace axis at row col → (i : ℕ) × ((row ≡ row_on axis at i) × (col ≡ col_on axis at i))
at_place Across at row col e = (col, (e, refl))
at_place Down at row col e = (row, (refl, e))

pub place_on : (axis : Axis) (at i : ℕ) → IsAtPlace axis at (row_on axis at i) (col_on axis at i)
place_on Across at i = refl
place_on Down at i = refl

-- a place past the end of a line has no open cell
pub none_past : (facts : Masks) (axis : Axis) (at i : ℕ) → IsFacts facts → at < lines_along axis facts → IsOpenCell facts (row_on axis at i) (col_on axis at i) → i < length (line_along axis at facts)
none_past facts Across at i is l o = let q = open_inside facts at i is o in let r = is.rectangular at l in omega (arith, q.1)
none_past facts Down at i is l o = let q = open_inside facts i at is o in let n = length-map facts (λ (row : List ℕ). get_or row at 0) in omega (arith, q.0)

-- the open cells of a line, place by place
pub whole_line : (facts : Masks) (line : LineId) (cells : List ℕ) (count : ℕ) → IsFacts facts → HasLine facts line → count ≡ length (line_of facts line)
    → ((k : ℕ) → k < count → IsOpenCell facts (row_on line.axis line.at k) (col_on line.axis line.at k) → HasCell cells (row_on line.axis line.at k) (col_on line.axis line.at k))
    → HasOpenCellsOf facts line cells
whole_line facts line cells count is has e h r c on o =
    let p = at_place line.axis line.at r c on in
    let row = row_on line.axis line.at p.0 in
    let col = col_on line.axis line.at p.0 in
    let there : IsOpenCell facts row col = subst (λ (j : ℕ). IsOpenCell facts row j) p.1.1 (subst (λ (i : ℕ). IsOpenCell facts i c) p.1.0 o) in
    let near = none_past facts line.axis line.at p.0 is has there in
    subst (λ (i : ℕ). HasCell cells i c) (sym p.1.0) (subst (λ (j : ℕ). HasCell cells row j) (sym p.1.1) (h p.0 (omega arith) there))

-- ---- cells and lines

pub grown_first : (facts : Masks) (row col : ℕ) (old new : Growth) → IsFacts facts → IsOpenCell facts row col → AllLines facts old.unvisited → ((r c : ℕ) → HasCell old.cells r c → ⊥)
    → ((line : LineId) → HasName old.waiting line → ⊥) → TakesIn row col old new → IsGrown facts row col new
grown_first facts row col old new is o all no_cell no_line t = record {
  begins = (t.cells row col).1 (inr (refl, refl));
  chained = λ r c h. elim ((t.cells r c).0 h) [
    | inl was ↦ absurd (no_cell r c was)
    | inr e ↦ rw e.1 (subst (λ (i : ℕ). IsChained facts row col i col) (sym e.0) (begins o))
  ];
  waits = λ r c line h on un. (t.waiting line).1 (elim ((t.cells r c).0 h) [
    | inl was ↦ absurd (no_cell r c was)
    | inr e ↦
        inr (subst (λ (names : Lines). HasName names line) t.unvisited un, subst (λ (j : ℕ). IsOnLine line row j) e.1 (subst (λ (i : ℕ). IsOnLine line i c) e.0 on))
  ]);
  reached = λ line w. elim ((t.waiting line).0 w) [
    | inl was ↦ absurd (no_line line was)
    | inr p ↦
        (subst (λ (names : Lines). HasName names line) (sym t.unvisited) p.0, record { row = row; col = col; has = (t.cells row col).1 (inr (refl, refl)); on_line = p.1 })
  ];
  visited = λ r c line on un o.
      let i = open_inside facts r c is o in
      absurd (un (rw t.unvisited ((all line).1 (line_inside facts r c i.0 i.1 line.axis line.at on))));
  inside = λ line un. let U : Lines → Type 0 = λ names. HasName names line in (all line).0 (subst U t.unvisited un);
}

pub grown_more : (facts : Masks) (row col r c : ℕ) (old new : Growth) → IsChained facts row col r c → TakesIn r c old new → IsGrown facts row col old → IsGrown facts row col new
grown_more facts row col r c old new chain t g = record {
  begins = (t.cells row col).1 (inl g.begins);
  chained = λ s d h. elim ((t.cells s d).0 h) [
    | inl was ↦ g.chained s d was
    | inr e ↦ rw e.1 (subst (λ (i : ℕ). IsChained facts row col i c) (sym e.0) chain)
  ];
  waits = λ s d line h on un.
      (t.waiting line).1 (elim ((t.cells s d).0 h) [
        | inl was ↦ inl (g.waits s d line was on (rw t.unvisited at un))
        | inr e ↦
            inr (rw t.unvisited at un, subst (λ (j : ℕ). IsOnLine line r j) e.1 (subst (λ (i : ℕ). IsOnLine line i d) e.0 on))
      ]);
  reached = λ line w.
      elim ((t.waiting line).0 w) [
        | inl was ↦ let old_reach = g.reached line was in (
          rw t.unvisited old_reach.0,
          record { row = old_reach.1.row; col = old_reach.1.col; has = (t.cells old_reach.1.row old_reach.1.col).1 (inl old_reach.1.has); on_line = old_reach.1.on_line },
        )
        | inr p ↦ (rw t.unvisited p.0, record { row = r; col = c; has = (t.cells r c).1 (inr (refl, refl)); on_line = p.1 })
      ];
  visited = λ s d line on un o.
      (t.cells s d).1 (inl (g.visited s d line on (λ was. un (rw t.unvisited was)) o));
  inside = λ line un. let U : Lines → Type 0 = λ names. HasName names line in g.inside line (subst U t.unvisited un);
}

-- an open cell of a line that waits is chained
pub waiting_chained : (facts : Masks) (row col r c : ℕ) (growth : Growth) (line : LineId) → IsGrown facts row col growth → HasName growth.waiting line → IsOnLine line r c → IsOpenCell facts r c
    → IsChained facts row col r c
waiting_chained facts row col r c growth line g w on o =
    let reach = (g.reached line w).1 in
    goes_on reach.row reach.col r c (g.chained reach.row reach.col reach.has) (on_one_line line.axis line.at reach.row reach.col r c reach.on_line on) o

-- a line gathered up to one of its places
pub record Gathering (facts : Masks) (line : LineId) (first now : Growth) (count : ℕ) : Type 0 where
  pub grown : (row col : ℕ) → IsGrown facts row col first → IsGrown facts row col now
  pub here : (k : ℕ) → k < count → IsOpenCell facts (row_on line.axis line.at k) (col_on line.axis line.at k) → HasCell now.cells (row_on line.axis line.at k) (col_on line.axis line.at k)
  pub waits : HasName now.waiting line
  pub unvisited : now.unvisited ≡ first.unvisited

place_is : (line : LineId) (i row col : ℕ) → row ≡ row_on line.axis line.at i → col ≡ col_on line.axis line.at i → IsOnLine line row col
place_is line i row col e f =
    subst (λ (x : ℕ). IsOnLine line x col) (sym e) (subst (λ (y : ℕ). IsOnLine line (row_on line.axis line.at i) y) (sym f) (place_on line.axis line.at i))

pub gathered_open : (facts : Masks) (line : LineId) (first old new : Growth) (i row col : ℕ) → row ≡ row_on line.axis line.at i → col ≡ col_on line.axis line.at i → IsOpenCell facts row col
    → TakesIn row col old new → Gathering facts line first old i → Gathering facts line first new (i + 1)
gathered_open facts line first old new i row col e f o t g = record {
  grown = λ r c was.
      let grown_old = g.grown r c was in
      grown_more facts r c row col old new (waiting_chained facts r c row col old line grown_old g.waits (place_is line i row col e f) o) t grown_old;
  here = below_next (λ k. IsOpenCell facts (row_on line.axis line.at k) (col_on line.axis line.at k) → HasCell new.cells (row_on line.axis line.at k) (col_on line.axis line.at k)) i
      (λ k l p. (t.cells (row_on line.axis line.at k) (col_on line.axis line.at k)).1 (inl (g.here k l p)))
      (λ p. (t.cells (row_on line.axis line.at i) (col_on line.axis line.at i)).1 (inr (sym e, sym f)));
  waits = (t.waiting line).1 (inl g.waits);
  unvisited = t.unvisited ∙ g.unvisited;
}

pub gathered_shut : (facts : Masks) (line : LineId) (first old : Growth) (i row col : ℕ) → row ≡ row_on line.axis line.at i → col ≡ col_on line.axis line.at i → (IsOpenCell facts row col → ⊥)
    → Gathering facts line first old i → Gathering facts line first old (i + 1)
gathered_shut facts line first old i row col e f n g = record {
  grown = g.grown;
  here = below_next (λ k. IsOpenCell facts (row_on line.axis line.at k) (col_on line.axis line.at k) → HasCell old.cells (row_on line.axis line.at k) (col_on line.axis line.at k)) i
      g.here
      (λ p. absurd (
      n (subst (λ (x : ℕ). IsOpenCell facts x col) (sym e) (subst (λ (y : ℕ). IsOpenCell facts (row_on line.axis line.at i) y) (sym f) p))));
  waits = g.waits;
  unvisited = g.unvisited;
}

pub grown_left : (facts : Masks) (row col : ℕ) (line : LineId) (old new : Growth) → HasOpenCellsOf facts line old.cells → Leaves line old new → IsGrown facts row col old → IsGrown facts row col new
grown_left facts row col line old new all l g =
    let H : (r c : ℕ) → List ℕ → Type 0 = λ r c cells. HasCell cells r c in
    record {
      begins = subst (H row col) (sym l.cells) g.begins;
      chained = λ r c h. g.chained r c (subst (H r c) l.cells h);
      waits = λ r c other h on un. let was = (l.unvisited other).0 un in (l.waiting other).1 (g.waits r c other (subst (H r c) l.cells h) on was.0, was.1);
      reached = λ other w.
          let was = (l.waiting other).0 w in
          let reach = g.reached other was.0 in
          ((l.unvisited other).1 (reach.0, was.1), record { row = reach.1.row; col = reach.1.col; has = subst (H reach.1.row reach.1.col) (sym l.cells) reach.1.has; on_line = reach.1.on_line });
      visited = λ r c other on un o. subst (H r c) (sym l.cells) (elim (same_line other line) [
        | inl e ↦ all r c (let P : LineId → Type 0 = λ x. IsOnLine x r c in subst P e on) o
        | inr d ↦ g.visited r c other on (λ was. un ((l.unvisited other).1 (was, d))) o
      ]);
      inside = λ other un. g.inside other ((l.unvisited other).0 un).0;
    }

-- where no line waits, the part has all cells that are chained
closed_step : (facts : Masks) (row col r c s d : ℕ) (growth : Growth) (line : LineId) → IsGrown facts row col growth → ((other : LineId) → HasName growth.waiting other → ⊥) → HasCell growth.cells r c
    → IsOnLine line r c → IsOnLine line s d → IsOpenCell facts s d → HasCell growth.cells s d
closed_step facts row col r c s d growth line g none h on there o =
    g.visited s d line there (λ un. none line (g.waits r c line h on un)) o

by_share : (facts : Masks) (row col r c s d : ℕ) (growth : Growth) → IsGrown facts row col growth → ((other : LineId) → HasName growth.waiting other → ⊥) → HasCell growth.cells r c → ShareLine r c s d
    → IsOpenCell facts s d → HasCell growth.cells s d
by_share facts row col r c s d growth g none h (inl e) o = closed_step facts row col r c s d growth (line_named Across r) g none h refl (sym e) o
by_share facts row col r c s d growth g none h (inr e) o = closed_step facts row col r c s d growth (line_named Down c) g none h refl (sym e) o

all_chained : (facts : Masks) (row col r c : ℕ) (growth : Growth) → IsGrown facts row col growth → ((other : LineId) → HasName growth.waiting other → ⊥) → IsChained facts row col r c
    → HasCell growth.cells r c
all_chained facts row col _ _ growth g none (begins o) = g.begins
all_chained facts row col _ _ growth g none (goes_on r c s d chain share o) = by_share facts row col r c s d growth g none (all_chained facts row col r c growth g none chain) share o

pub grown_whole : (facts : Masks) (row col : ℕ) (growth : Growth) → IsGrown facts row col growth → ((other : LineId) → HasName growth.waiting other → ⊥) → (r c : ℕ)
    → HasCell growth.cells r c ↔ IsChained facts row col r c
grown_whole facts row col growth g none r c = (g.chained r c, all_chained facts row col r c growth g none)

-- The facts in which a part is searched.
use Rattle.std.proofs.Common.{◌≡◌, ℕ, ◌+◌, ◌^◌, ◌<◌, ◌≤◌, List, [], length, refl, sym, ap, subst, ◌∙◌, arith, inl, inr}
use Rattle.std.specs.Prelude.{slice_index}
use Rattle.std.proofs.lemmas.Bool.{cases_eq, cases_lt}
use Rattle.std.proofs.lemmas.List.{get_or_past}
use Rattle.picture.specs.declared.line_id.LineId.{LineId}
use Rattle.picture.specs.CellSet.{HasCell}
use Rattle.picture.specs.LineSet.{Lines, HasName, name_count}
use Rattle.picture.proofs.LineSetLaws.{members}
use Rattle.picture.specs.Picture.{IsPicture}
use Rattle.picture.specs.Rows.{width_of, row_at, cell_at, HasLine, Rows}
use Rattle.clues.specs.ClueBook.{Clues, clues_of}
use Rattle.clues.specs.Laws.{CluesAreOfLines}
use Rattle.line_facts.specs.Masks.{IsOnly, Masks}
use Rattle.line_facts.specs.FactSets.{IsFacts, SameShape}
use Rattle.line_facts.proofs.GridLaws.{same_has_line, shape_refl, shape_sym, shape_trans}
use Rattle.picture.proofs.BitLaws.{power_has, bit_or_not}
use Rattle.line_facts.proofs.MaskLaws.{only_is_power}
use Rattle.fixpoint.specs.ClosedFacts.{AreClosable}
use Rattle.fixpoint.specs.Fillings.{only}
use Rattle.fixpoint.specs.Laws.{OnlyIsClosed}
use Rattle.fixpoint.specs.LineNames.{AreLinesOf}
use Rattle.second_search.specs.Parts.{IsPart, begins}
use Rattle.second_search.specs.FixedOrder.{KeepsOutside, NamesLinesOf, alone}
use Rattle.second_search.specs.Through.{LeavesAlone, LeavesRowAlone, NamesBoth, PutsBoth, PutsRow, PutsThrough, across, down}
use Rattle.second_search.proofs.FindLemmas.{can_close}
use Rattle.second_search.proofs.ChainLemmas.{chain_end, open_inside}
use Rattle.trail.proofs.GridLemmas.{same_inside, same_grid}
use Rattle.second_search.proofs.LookLemmas.{below_next, only_there}
use Rattle.second_search.proofs.PickLemmas.{off_part, on_cells, rect_like, shape_of_picked}

-- ---- the facts of a part

pub own_power : OnlyIsClosed → (picture : Rows) (row col : ℕ) → col < length (row_at picture row) → cell_at (only picture) row col ≡ 2 ^ cell_at picture row col
own_power law picture row col l =
    only_is_power (cell_at (only picture) row col) (cell_at picture row col) (only_there law picture row col l)

-- facts that leave only the picture's colours outside of some cells are those that `alone` makes of the cells
pub alone_is : OnlyIsClosed → (cells : List ℕ) (picture : Rows) (facts : Masks) (new : List (List ℕ)) (rows : ℕ) → IsPicture picture → SameShape picture facts → rows ≡ length facts
    → LeavesAlone cells picture facts new rows → new ≡ alone cells facts picture
alone_is law cells picture facts new rows is shape full left =
    let own = law.same_shape picture in
    let rect = rect_like picture (only picture) own is.rectangular in
    let like = shape_of_picked cells facts (only picture) rect in
    let facts_like = shape_trans (shape_sym shape) own in
    same_inside new (alone cells facts picture) (width_of (only picture)) (shape_trans (shape_sym left.same_shape) (shape_trans facts_like (shape_sym like)))
    (λ i l. (let each = like.each i in let r = rect i (omega arith) in omega arith))
    (λ r c h l. elim (bit_or_not (slice_index cells r) c) [
      | inl has ↦ left.kept r c has ∙ sym (on_cells cells facts (only picture) r c rect facts_like has)
      | inr out ↦
          left.left r c (omega arith) (omega arith) out ∙ sym (off_part cells facts (only picture) r c rect out ∙ own_power law picture r c (omega arith))
    ])

-- on no cells these are the facts that leave only the picture's colours
pub alone_none : OnlyIsClosed → (cells : List ℕ) (picture : Rows) (facts : Masks) → IsPicture picture → ((row col : ℕ) → HasCell cells row col → ⊥) → alone cells facts picture ≡ only picture
alone_none law cells picture facts is none =
    let rect = rect_like picture (only picture) (law.same_shape picture) is.rectangular in
    same_grid (alone cells facts picture) (only picture) (shape_of_picked cells facts (only picture) rect) (λ r c. off_part cells facts (only picture) r c rect (none r c))

-- before the first row all facts are kept
pub leaves_none : (cells : List ℕ) (picture : Rows) (facts : Masks) (new : List (List ℕ)) → new ≡ facts → LeavesAlone cells picture facts new 0
leaves_none cells picture facts new e =
    subst (λ (x : List (List ℕ)). LeavesAlone cells picture facts x 0) (sym e) (record { same_shape = shape_refl facts; kept = λ row col h. refl; left = λ row col l. absurd (omega arith) })

-- one more row leaves only the picture's colours outside of the cells
pub leaves_more : (cells : List ℕ) (picture : Rows) (first : Masks) (old new : List (List ℕ)) (row width : ℕ) → width ≡ width_of old → LeavesAlone cells picture first old row
    → LeavesRowAlone cells picture old new row width → LeavesAlone cells picture first new (row + 1)
leaves_more cells picture first old new row width e before h = record {
  same_shape = shape_trans before.same_shape h.same_shape;
  kept = λ r c has. elim (cases_eq r row) [
    | inl q ↦ subst (λ (x : ℕ). HasCell cells x c → cell_at new x c ≡ cell_at first x c) (sym q) (λ here. h.kept c here ∙ before.kept row c here) has
    | inr d ↦ h.elsewhere r c d ∙ before.kept r c has
  ];
  left = λ r c l. below_next (λ x. c < width_of first → (HasCell cells x c → ⊥) → cell_at new x c ≡ 2 ^ cell_at picture x c) row
      (λ x m w out. h.elsewhere x c (λ q. absurd (omega arith)) ∙ before.left x c m w out)
      (λ w out. let first : width_of first ≡ width_of old = before.same_shape.each 0 in h.left c (omega arith) out) r l;
}

pub keeps_outside : (cells : List ℕ) (picture : Rows) (facts : Masks) (new : List (List ℕ)) (rows : ℕ) → IsFacts facts → SameShape picture facts → rows ≡ length facts
    → LeavesAlone cells picture facts new rows → KeepsOutside cells picture new
keeps_outside cells picture facts new rows is shape full left = record {
  same_shape = shape_trans shape left.same_shape;
  outside = λ row col l out.
      let h : row < length facts =
      elim (cases_lt row (length facts)) [ inl m ↦ m | inr p ↦ absurd (let none : length (row_at facts row) ≡ 0 = ap length (get_or_past facts row [] p) in omega arith) ] in
      let rect = is.rectangular row h in
      subst (λ (m : ℕ). IsOnly m (cell_at picture row col)) (sym (left.left row col (omega arith) (omega arith) out)) (power_has (cell_at picture row col));
}

-- ---- the cells of a part

pub part_inside : (facts : Masks) (cells : List ℕ) (r c : ℕ) → IsFacts facts → IsPart facts cells → HasCell cells r c → (r < length facts) × (c < width_of facts)
part_inside facts cells r c is p h = open_inside facts r c is (chain_end facts p.row p.col r c ((p.from.members r c).0 h))

pub names_lines : (facts : Masks) (cells : List ℕ) (lines : Lines) (rows : ℕ) → IsFacts facts → IsPart facts cells → rows ≡ length facts → PutsThrough cells facts lines rows → NamesLinesOf cells lines
names_lines facts cells lines rows is p full puts row col h =
    let i = part_inside facts cells row col is p h in
    puts row col (let l = i.0 in omega arith) i.1 h

-- a set that has a name counts at least one
pub name_counts : (lines : Lines) (line : LineId) → HasName lines line → 0 < name_count lines
name_counts lines line has = elim (cases_eq (name_count lines) 0) [
  | inl z ↦ absurd (members.empty line (subst (λ (x : Lines). HasName x line) ((members.counted lines).0 z) has))
  | inr d ↦ omega arith
]

-- a part has a cell, so a line goes through it
pub names_some : (facts : Masks) (cells : List ℕ) (lines : Lines) → IsPart facts cells → NamesLinesOf cells lines → 0 < name_count lines
names_some facts cells lines p names = name_counts lines (across p.row) (names p.row p.col ((p.from.members p.row p.col).1 (begins p.from.is_open))).0

-- ---- a search of one part

pub closable_alone : CluesAreOfLines → (clues : Clues) (cells : List ℕ) (picture : Rows) (new : List (List ℕ)) (longest : ℕ) → clues_of picture ≡ clues → KeepsOutside cells picture new
    → length clues.rows ≤ longest → length clues.columns ≤ longest → AreClosable clues longest new
closable_alone law clues cells picture new longest e k tall wide = can_close clues picture new new longest (law.sizes picture) e k.same_shape refl tall wide

-- ---- the lines through some cells

pub lines_more : (facts : Masks) (lines more : Lines) (row col : ℕ) → row < length facts → col < width_of facts → AreLinesOf facts lines → PutsBoth row col lines more → AreLinesOf facts more
lines_more facts lines more row col h l of p line has = elim ((p line).0 has) [
  | inl m ↦ of line m
  | inr e ↦ elim e [
    | inl a ↦ let P : LineId → Type 0 = λ x. HasLine facts x in subst P (sym a) h
    | inr d ↦ let P : LineId → Type 0 = λ x. HasLine facts x in subst P (sym d) l
  ]
]

pub row_put : (cells : List ℕ) (first lines more : Lines) (row col : ℕ) → PutsRow cells row col first lines → PutsBoth row col lines more → PutsRow cells row (col + 1) first more
row_put cells first lines more row col i p = record {
  kept = λ line h. (p line).1 (inl (i.kept line h));
  put = below_next (λ c. HasCell cells row c → NamesBoth more row c) col
      (λ c m h. (let b = i.put c m h in ((p (across row)).1 (inl b.0), (p (down c)).1 (inl b.1))))
      (λ h. ((p (across row)).1 (inr (inl refl)), (p (down col)).1 (inr (inr refl))));
}

pub row_same : (cells : List ℕ) (first lines : Lines) (row col : ℕ) → PutsRow cells row col first lines → (HasCell cells row col → ⊥) → PutsRow cells row (col + 1) first lines
row_same cells first lines row col i n = record {
  kept = i.kept;
  put = below_next (λ c. HasCell cells row c → NamesBoth lines row c) col i.put (λ h. absurd (n h));
}

pub rows_put : (cells : List ℕ) (facts : Masks) (lines more : Lines) (row width : ℕ) → width ≡ width_of facts → PutsThrough cells facts lines row → PutsRow cells row width lines more
    → PutsThrough cells facts more (row + 1)
rows_put cells facts lines more row width e before p r col l w has =
    below_next (λ x. HasCell cells x col → NamesBoth more x col) row
    (λ x m h. (let b = before x col m w h in (p.kept (across x) b.0, p.kept (down col) b.1)))
    (λ h. p.put col (omega arith) h)
    r l has

pub lines_alone : (cells : List ℕ) (picture : Rows) (facts : Masks) (new : List (List ℕ)) (lines : Lines) → SameShape picture facts → KeepsOutside cells picture new → AreLinesOf facts lines
    → AreLinesOf new lines
lines_alone cells picture facts new lines shape k of line h = same_has_line facts new line (shape_trans (shape_sym shape) k.same_shape) (of line h)

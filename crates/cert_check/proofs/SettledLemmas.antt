-- Lines that are settled: when they are, and while they stay so.
use Rattle.std.proofs.Common.{◌≡◌, ℕ, List, map, slice_index, IsBitSet, refl, sym, ap, subst, ◌∙◌, inl, inr}
use Rattle.picture.specs.declared.line_id.Axis.{Axis}
use Rattle.picture.specs.declared.line_id.Axis.TheVariants.{Across, Down}
use Rattle.picture.specs.declared.line_id.LineId.{LineId}
use Rattle.picture.specs.CrossingLines.{crossing_at}
use Rattle.picture.specs.LineSet.{HasName, Lines, PutsName, TakesOutName}
use Rattle.picture.specs.Rows.{line_of, with_cell, Rows}
use Rattle.clues.specs.declared.block.Block.{Block}
use Rattle.clues.specs.ClueBook.{Clues, clue_at, clues_of}
use Rattle.line_facts.specs.declared.line_engine.Outcome.{Outcome}
use Rattle.line_facts.specs.Fits.{CanHave}
use Rattle.line_facts.specs.FactSets.{HoldsLine, IsClosedLine, SameShape, col_on, row_on}
use Rattle.line_facts.specs.Masks.{Masks}
use Rattle.line_facts.specs.NarrowedLine.{Narrows}
use Rattle.line_facts.proofs.FitLaws.{have_narrowed}
use Rattle.line_facts.proofs.GridLaws.{cell_on, off_with_cell, same_line_length, same_list, shape_refl, shape_trans, shape_with_cell}
use Rattle.trail.specs.Through.{across, down}
use Rattle.cert_check.specs.Boards.{AreSettled, Boarded, IsTallied, KeepsOthers, UnsettlesCell}
use Rattle.cert_check.specs.Puzzle.{IsForced}
use Rattle.cert_check.specs.Strays.{strays_of}
use Rattle.cert_check.specs.Walk.{CanCheck}

-- a colour that a line can have in a cell is left there
pub had : (clue : List Block) (left : List ℕ) (i k : ℕ) → CanHave clue left i k → IsBitSet (slice_index left i) k
had clue left i k h = let P : ℕ → Type 0 = λ c. IsBitSet (slice_index left i) c in subst P h.has (h.fits.keeps i h.within)

-- a settled line forces what is known
pub settled_forces : (picture : Rows) (facts : Masks) (line : LineId) → IsClosedLine (clue_at (clues_of picture) line) (line_of facts line) → IsForced picture facts line facts
settled_forces picture facts line closed = record {
  same_shape = shape_refl facts;
  exact = λ i k. (closed i k, had (clue_at (clues_of picture) line) (line_of facts line) i k);
  elsewhere = λ row col off. refl;
}

-- a line is settled by its evaluation
pub settled_by : (picture : Rows) (old new : Masks) (clues : Clues) (longest : ℕ) (clue : List Block) (line : LineId) (outcome : Outcome) (masks : List ℕ) → CanCheck picture clues longest
    → clue ≡ clue_at clues line → Narrows clue (line_of old line) outcome masks → HoldsLine line old new masks → IsClosedLine (clue_at (clues_of picture) line) (line_of new line)
settled_by picture old new clues longest clue line outcome masks can c n h =
    let of : clue ≡ clue_at (clues_of picture) line = c ∙ ap (λ (cs : Clues). clue_at cs line) can.clues_are in
    let here = subst (λ (x : List Block). Narrows x (line_of old line) outcome (line_of new line)) of (subst (Narrows clue (line_of old line) outcome) (sym h.line_is) n) in
    λ i k s. have_narrowed (clue_at (clues_of picture) line) (line_of old line) (line_of new line) outcome here i k ((here.exact i k).0 s)

pub settled_more : (picture : Rows) (facts : Masks) (lines more : Lines) (line : LineId) → AreSettled picture facts lines → PutsName lines more line
    → IsClosedLine (clue_at (clues_of picture) line) (line_of facts line) → AreSettled picture facts more
settled_more picture facts lines more line settled puts closed = λ other has. elim ((puts other).0 has) [
  | inl h ↦ settled other h
  | inr e ↦ subst (λ (l : LineId). IsClosedLine (clue_at (clues_of picture) l) (line_of facts l)) (sym e) closed
]

-- ---- a cell changes: the lines that are not through it stay settled

not_through : (axis : Axis) (at row col i : ℕ) → (record { axis = axis; at = at } ≡ across row → ⊥) → (record { axis = axis; at = at } ≡ down col → ⊥)
    → (row_on axis at i ≡ row) × (col_on axis at i ≡ col) → ⊥
not_through Across at row col i a d p = a (ap across p.0)
not_through Down at row col i a d p = d (ap down p.1)

pub same_line : (facts : Masks) (row col held : ℕ) (line : LineId) → (line ≡ across row → ⊥) → (line ≡ down col → ⊥) → line_of (with_cell facts row col held) line ≡ line_of facts line
same_line facts row col held line a d =
    same_list (line_of (with_cell facts row col held) line) (line_of facts line) (same_line_length facts (with_cell facts row col held) line (shape_with_cell facts row col held))
    (λ i l. cell_on (with_cell facts row col held) line i
    ∙ (off_with_cell facts row col held (row_on line.axis line.at i) (col_on line.axis line.at i) (not_through line.axis line.at row col i a d)
    ∙ sym (cell_on facts line i)))

pub still_settled : (picture : Rows) (facts : Masks) (row col held : ℕ) (lines fewer least : Lines) → AreSettled picture facts lines → TakesOutName lines fewer (across row)
    → TakesOutName fewer least (down col) → AreSettled picture (with_cell facts row col held) least
still_settled picture facts row col held lines fewer least settled rows columns = λ line has.
    let one = (columns line).0 has in
    let both = (rows line).0 one.0 in
    subst (IsClosedLine (clue_at (clues_of picture) line)) (sym (same_line facts row col held line both.1 one.1)) (settled line both.0)

-- ---- the numbers of a board, and its lines

-- a cell gets another mask
pub changed_tallied : (picture : Rows) (old new : Boarded) (row col held : ℕ) → IsTallied picture old → new.at_hand ≡ with_cell old.at_hand row col held
    → new.waits ≡ map (strays_of picture) new.behind → new.strays ≡ strays_of picture (with_cell old.at_hand row col held) → UnsettlesCell old.settled new.settled row col → IsTallied picture new
changed_tallied picture old new row col held tallied a w s u = record {
  same_shape = subst (SameShape picture) (sym a) (shape_trans tallied.same_shape (shape_with_cell old.at_hand row col held));
  strays = s ∙ ap (strays_of picture) (sym a);
  waits = w;
  settled = subst (λ (f : Masks). AreSettled picture f new.settled) (sym a) (still_settled picture old.at_hand row col held old.settled u.0 new.settled tallied.settled u.1.0 u.1.1);
}

pub unsettled_others : (old new : Lines) (row col : ℕ) → UnsettlesCell old new row col → KeepsOthers old new row col
unsettled_others old new row col u line has a d = (u.1.1 line).1 ((u.1.0 line).1 (has, a), d)

-- ---- a cell of a line that is not settled changes

absent : (lines : Lines) (line : LineId) → (HasName lines line → ⊥) → TakesOutName lines lines line
absent lines line none = λ other. ((λ h. (h, λ e. none (subst (HasName lines) e h))), (λ both. both.0))

pub crossed : (axis : Axis) (at place : ℕ) (old new : Lines) → (HasName old (record { axis = axis; at = at }) → ⊥)
    → TakesOutName old new (crossing_at (record { axis = axis; at = at }) place) → UnsettlesCell old new (row_on axis at place) (col_on axis at place)
crossed Across at place old new none takes = (old, (absent old (across at) none, takes))
crossed Down at place old new none takes = (new, (takes, absent new (down at) (λ h. none ((takes (down at)).0 h).0)))

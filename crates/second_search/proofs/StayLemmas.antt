-- A part whose lines are the same in two scenes.
use Rattle.std.proofs.Common.{◌≡◌, ℕ, ◌<◌, List, length, refl, sym, ap, subst, ◌∙◌, arith, inl, inr}
use Rattle.std.specs.Prelude.{slice_index}
use Rattle.line_facts.specs.Masks.{Masks}
use Rattle.picture.specs.declared.line_id.LineId.{LineId}
use Rattle.picture.specs.CellSet.{HasCell}
use Rattle.picture.specs.Laws.{CellsAreMembers}
use Rattle.picture.specs.Rows.{width_of, cell_at, line_of, HasLine, Rows}
use Rattle.clues.specs.Clue.{clue_of}
use Rattle.clues.specs.ClueBook.{Clues}
use Rattle.clues.specs.Laws.{BooksAreTheirClues, CluesAreOfLines, IsOnLine}
use Rattle.line_facts.proofs.SolutionLaws.{solved_shape}
use Rattle.second_search.specs.Laws.{FillingsStay}
use Rattle.second_search.specs.Parts.{Board, GoesThrough, IsChained, IsOpenCell, IsOtherFilling, IsPart, IsScene, KeepsLines, begins, goes_on, picked, board}
use Rattle.second_search.proofs.ChainLemmas.{HasTwoColours, ShareLine}
use Rattle.second_search.proofs.PartLemmas.{part_open, picked_picture, through_or_not}
use Rattle.second_search.proofs.PickLemmas.{cells_along, clue_known, off_part, on_part, same_along, same_clues, same_count, shape_of_picked}
use Rattle.trail.proofs.GridLemmas.{same_grid}
use Rattle.picture.proofs.BitLaws.{bit_or_not}
use Rattle.line_facts.proofs.GridLaws.{same_line_length}
use Rattle.trail.specs.Through.{across, down}

in_row : (cells : List ℕ) (row col : ℕ) → HasCell cells row col → GoesThrough (across row) cells
in_row cells row col h = record { row = row; col = col; has = h; on_line = refl }

in_column : (cells : List ℕ) (row col : ℕ) → HasCell cells row col → GoesThrough (down col) cells
in_column cells row col h = record { row = row; col = col; has = h; on_line = refl }

-- ---- the part

module _ (clues clues_after : Clues) (facts : Masks) (picture : Rows) (facts_after : Masks) (picture_after : Rows) (cells : List ℕ) where
  abbrev board_before : Board
  board_before = board clues facts picture

  abbrev board_after : Board
  board_after = board clues_after facts_after picture_after

  left_same : KeepsLines board_before board_after cells → (line : LineId) (row col : ℕ) → GoesThrough line cells → IsOnLine line row col
      → cell_at facts row col ≡ cell_at facts_after row col
  left_same k line row col t on = cells_along facts facts_after line.axis line.at row col (k line t).left on

  shown_same : KeepsLines board_before board_after cells → (line : LineId) (row col : ℕ) → GoesThrough line cells → IsOnLine line row col
      → cell_at picture row col ≡ cell_at picture_after row col
  shown_same k line row col t on = cells_along picture picture_after line.axis line.at row col (k line t).shown on

  open_after : KeepsLines board_before board_after cells → (row col : ℕ) → HasCell cells row col → IsOpenCell facts row col → IsOpenCell facts_after row col
  open_after k row col h o = subst HasTwoColours (left_same k (across row) row col (in_row cells row col h) refl) o

  open_before : KeepsLines board_before board_after cells → (r c s d : ℕ) → HasCell cells r c → ShareLine r c s d → IsOpenCell facts_after s d → IsOpenCell facts s d
  open_before k r c s d h (inl e) o = subst HasTwoColours (sym (left_same k (across r) s d (in_row cells r c h) (sym e))) o
  open_before k r c s d h (inr e) o = subst HasTwoColours (sym (left_same k (down c) s d (in_column cells r c h) (sym e))) o

  chain_after : KeepsLines board_before board_after cells → (row col : ℕ) → ((r c : ℕ) → IsChained facts row col r c → HasCell cells r c) → (r c : ℕ)
      → IsChained facts row col r c → IsChained facts_after row col r c
  chain_after k row col all _ _ (begins o) = begins (open_after k row col (all row col (begins o)) o)
  chain_after k row col all _ _ (goes_on r c s d chain share o) = goes_on r c s d (chain_after k row col all r c chain) share (open_after k s d (all s d (goes_on r c s d chain share o)) o)

  chain_before : KeepsLines board_before board_after cells → (row col : ℕ) → IsOpenCell facts row col → ((r c : ℕ) → IsChained facts row col r c → HasCell cells r c)
      → (r c : ℕ) → IsChained facts_after row col r c → IsChained facts row col r c
  chain_before k row col first all _ _ (begins o) = begins first
  chain_before k row col first all _ _ (goes_on r c s d chain share o) =
      let before = chain_before k row col first all r c chain in
      goes_on r c s d before share (open_before k r c s d (all r c before) share o)

  pub part_after : KeepsLines board_before board_after cells → IsPart facts cells → IsPart facts_after cells
  part_after k p = record {
    row = p.row;
    col = p.col;
    from = record {
      set = p.from.set;
      is_open = open_after k p.row p.col ((p.from.members p.row p.col).1 (begins p.from.is_open)) p.from.is_open;
      members = λ r c. (
        (λ h. chain_after k p.row p.col (λ s d. (p.from.members s d).1) r c ((p.from.members r c).0 h)),
        (λ chain. (p.from.members r c).1 (chain_before k p.row p.col p.from.is_open (λ s d. (p.from.members s d).1) r c chain)),
      );
      first = p.from.first;
    };
  }

  pub keeps_back : KeepsLines board_before board_after cells → KeepsLines board_after board_before cells
  keeps_back k line t = let same = k line t in record { before = same.after; after = same.before; clue = sym same.clue; left = sym same.left; shown = sym same.shown }

-- ---- its other fillings

module _ (of_lines : CluesAreOfLines) (books : BooksAreTheirClues) (members : CellsAreMembers) where
  pub carried_filling : (clues clues_after : Clues) (givens givens_after : List ℕ) (facts : Masks) (picture : Rows) (facts_after : Masks) (picture_after other : Rows) (cells : List ℕ)
      → IsScene clues givens facts picture → IsScene clues_after givens_after facts_after picture_after
      → KeepsLines (board clues facts picture) (board clues_after facts_after picture_after) cells → IsPart facts cells → IsOtherFilling clues givens picture cells other
      → IsOtherFilling clues_after givens_after picture_after cells (picked cells other picture_after)
  carried_filling clues clues_after givens givens_after facts picture facts_after picture_after other cells s t k p f =
      let new = picked cells other picture_after in
      let rect = t.is_picture.rectangular in
      let shape = shape_of_picked cells other picture_after rect in
      let like = solved_shape f.is_other.solves in
      let inside : (r c : ℕ) → HasCell cells r c
      → (r < length picture_after) × (c < width_of picture_after) = λ r c h. ((k (across r) (in_row cells r c h)).after, (k (down c) (in_column cells r c h)).after) in
      let on : (r c : ℕ) → HasCell cells r c → cell_at new r c ≡ cell_at other r c = λ r c h. on_part cells other picture_after r c (inside r c h).0 (inside r c h).1 h in
      let off : (r c : ℕ) → (HasCell cells r c → ⊥) → cell_at new r c ≡ cell_at picture_after r c = λ r c n. off_part cells other picture_after r c rect n in
      let shown : (line : LineId) (r c : ℕ) → GoesThrough line cells → IsOnLine line r c
      → cell_at picture r c ≡ cell_at picture_after r c = shown_same clues clues_after facts picture facts_after picture_after cells k in
      let clue : (line : LineId) → HasLine new line → clue_of (line_of new line) ≡ clue_of (line_of picture_after line) = λ line has. elim (through_or_not cells line members p.from.set) [
        | inl through ↦
            let same = k line through in
            let long = sym (same_line_length new picture_after line shape) ∙ (ap length (sym same.shown) ∙ same_line_length other picture line like) in
            let one = same_along new other line.axis line.at long (λ r c at. elim (bit_or_not (slice_index cells r) c) [
              | inl h ↦ on r c h
              | inr n ↦ off r c n ∙ (sym (shown line r c through at) ∙ sym (f.elsewhere r c n))
            ]) in
            let n = same_count other picture like line.axis in
            ap clue_of one
            ∙ (clue_known of_lines clues other line f.is_other.solves.has_clues (omega arith) ∙ (same.clue ∙ sym (clue_known of_lines clues_after picture_after line t.has_clues same.after)))
        | inr none ↦ ap clue_of
            (same_along new picture_after line.axis line.at (sym (same_line_length new picture_after line shape)) (λ r c at. off r c (λ h. none (record { row = r; col = c; has = h; on_line = at }))))
      ] in
      let after = part_after clues clues_after facts picture facts_after picture_after cells k p in
      record {
        is_other = record {
          solves = record {
            is_picture = picked_picture cells other picture_after f.is_other.solves.is_picture.colours t.is_picture on;
            rows = shape.rows;
            columns = shape.each;
            has_clues = same_clues of_lines books new picture_after shape clue ∙ t.has_clues;
            keeps_givens = λ r c g. elim (bit_or_not (slice_index cells r) c) [
              | inr n ↦ off r c n
              | inl h ↦ absurd (
                  let o = part_open facts_after cells r c after h in
                  o.4 (t.sound.hold_givens r c o.0 g o.2 ∙ sym (t.sound.hold_givens r c o.1 g o.3)))
            ];
          };
          differs = λ e. f.is_other.differs (same_grid other picture like (λ r c. elim (bit_or_not (slice_index cells r) c) [
            | inl h ↦ sym (on r c h) ∙ (ap (λ x. cell_at x r c) e ∙ sym (shown (across r) r c (in_row cells r c h) refl))
            | inr n ↦ f.elsewhere r c n
          ]));
        };
        elsewhere = off;
      }

  pub all_stays : FillingsStay
  all_stays = record {
    part = part_after;
    carried = carried_filling;
    back = keeps_back;
    none = λ clues clues_after givens givens_after facts picture facts_after picture_after cells s t k p none other f.
        none (picked cells other picture)
        (carried_filling clues_after clues givens_after givens facts_after picture_after facts picture other cells t s (keeps_back clues clues_after facts picture facts_after picture_after cells k)
        (part_after clues clues_after facts picture facts_after picture_after cells k p) f);
  }

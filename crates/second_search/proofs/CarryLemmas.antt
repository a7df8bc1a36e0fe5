-- What is known of parts, carried from one scene to another.
use Rattle.std.proofs.Common.{◌≡◌, ℕ, ◌+◌, ◌<◌, ◌≤◌, List, [], ◌∷◌, ◌++◌, length, get_or, refl, sym, subst, ◌∙◌, arith, inl, inr}
use Rattle.std.specs.Prelude.{slice_index}
use Rattle.std.proofs.lemmas.List.{length-map, length_push}
use Rattle.std.proofs.lemmas.Bool.{cases_lt}
use Rattle.line_facts.specs.Masks.{Masks}
use Rattle.picture.specs.declared.line_id.Axis.{Axis}
use Rattle.picture.specs.declared.line_id.Axis.TheVariants.{Across, Down}
use Rattle.picture.specs.declared.line_id.LineId.{LineId}
use Rattle.picture.specs.declared.picture.TheConstants.{MAX_SIDE}
use Rattle.picture.specs.CellSet.{HasCell}
use Rattle.picture.specs.Laws.{SameCellsAreEqual}
use Rattle.picture.specs.LineSet.{Lines}
use Rattle.picture.specs.Picture.{IsPicture}
use Rattle.picture.specs.Rows.{width_of, row_at, cell_at, line_along, line_of, lines_along, HasLine, Rows}
use Rattle.clues.specs.ClueBook.{Clues}
use Rattle.line_facts.specs.FactSets.{IsFacts, col_on, row_on}
use Rattle.second_search.specs.declared.keeper.Answer.{Answer}
use Rattle.second_search.specs.declared.keeper.Answer.TheVariants.{Filling, Nothing, Unknown}
use Rattle.second_search.specs.declared.keeper.KeptPart.{KeptPart}
use Rattle.second_search.specs.CarriedParts.{AreSameLines, Carries, CarriesFirst, HoldsCells, IsCarried, KnowsNothing, LieInside, NamesThrough, PutsOn, carried}
use Rattle.second_search.specs.JudgedParts.{IsTrueOf, Starts, answer_at, cells_at, parts_of}
use Rattle.second_search.specs.Laws.{FillingsStay}
use Rattle.second_search.specs.Parts.{Board, AreParts, GoesThrough, IsPart, IsScene, KeepsLines, part_at, picked, board}
use Rattle.second_search.proofs.AloneLemmas.{part_inside}
use Rattle.second_search.proofs.GrowLemmas.{at_place, line_inside}
use Rattle.second_search.proofs.RowLemmas.{has_first, same_part}
use Rattle.second_search.proofs.PartLemmas.{open_in_picture, part_open}
use Rattle.second_search.proofs.PickLemmas.{off_part, on_part, outside_is_0, shape_of_picked}
use Rattle.second_search.proofs.VerdictLemmas.{each_is_part, each_more, part_of_kept, same_parts}
use Rattle.trail.proofs.GridLemmas.{same_grid, row_there}
use Rattle.line_facts.proofs.GridLaws.{shape_sym, shape_trans}
use Rattle.picture.proofs.BitLaws.{bit_or_not}

-- ---- colours put on some cells

pub is_picked : (cells : List ℕ) (other : Rows) (old new : List (List ℕ)) (rows : ℕ) → IsPicture old → rows ≡ length old → PutsOn cells other old new rows → new ≡ picked cells other old
is_picked cells other old new rows is full p =
    let rect = is.rectangular in
    let like = shape_of_picked cells other old rect in
    let shape = shape_trans (shape_sym p.same_shape) (shape_sym like) in
    let outside : (row col : ℕ) → length (row_at old row) ≤ col → cell_at new row col ≡ cell_at (picked cells other old) row col = λ row col q.
    outside_is_0 new row col (omega arith) ∙ sym (outside_is_0 (picked cells other old) row col (omega arith))
    in
    same_grid new (picked cells other old) shape (λ row col. elim (bit_or_not (slice_index cells row) col) [
      | inr n ↦ p.kept row col n ∙ sym (off_part cells other old row col rect n)
      | inl h ↦ elim (cases_lt col (length (row_at old row))) [
        | inr q ↦ outside row col q
        | inl m ↦
            let l = row_there old row col m in
            let w = rect row l in
            p.put row col (omega arith) (omega arith) h ∙ sym (on_part cells other old row col l (omega arith) h)
      ]
    ])

-- ---- a line through some cells

pub few_lines : (axis : Axis) (rows : Rows) → IsPicture rows → lines_along axis rows ≤ MAX_SIDE
few_lines Across rows is = is.rows_fit
few_lines Down rows is = is.columns_fit

near_on : (facts : Masks) (axis : Axis) (at row col i : ℕ) → IsFacts facts → at < lines_along axis facts → row < length facts → col < width_of facts → row ≡ row_on axis at i → col ≡ col_on axis at i
    → i < length (line_along axis at facts)
near_on facts Across at row col i is l h w e f = let r = is.rectangular at l in omega arith
near_on facts Down at row col i is l h w e f = let m = length-map facts (λ (line : List ℕ). get_or line at 0) in omega arith

pub stands_there : (cells : List ℕ) (facts : Masks) (line : LineId) (count : ℕ) → IsFacts facts → LieInside cells facts → HasLine facts line → count ≡ length (line_of facts line)
    → ((k : ℕ) → k < count → HasCell cells (row_on line.axis line.at k) (col_on line.axis line.at k) → ⊥) → GoesThrough line cells → ⊥
stands_there cells facts line count is inside has e none t =
    let p = at_place line.axis line.at t.row t.col t.on_line in
    let i = inside t.row t.col t.has in
    let near = near_on facts line.axis line.at t.row t.col p.0 is has i.0 i.1 p.1.0 p.1.1 in
    none p.0 (omega arith) (subst (λ (c : ℕ). HasCell cells (row_on line.axis line.at p.0) c) p.1.1 (subst (λ (r : ℕ). HasCell cells r t.col) p.1.0 t.has))

-- a line through some cells inside a grid is one of its lines
through_inside : (rows : Rows) (cells : List ℕ) (line : LineId) → LieInside cells rows → GoesThrough line cells → HasLine rows line
through_inside rows cells line inside t = let i = inside t.row t.col t.has in line_inside rows t.row t.col i.0 i.1 line.axis line.at t.on_line

-- ---- the lines through a part

module _ (clues : Clues) (givens : List ℕ) (facts picture : List (List ℕ)) where
  pub part_in_picture : (cells : List ℕ) → IsScene clues givens facts picture → IsPart facts cells → LieInside cells picture
  part_in_picture cells s p row col h = open_in_picture clues givens facts picture row col s (part_open facts cells row col p h)

module _ (clues : Clues) (facts : Masks) (picture : Rows) (clues_after : Clues) (givens_after : List ℕ) (facts_after picture_after : List (List ℕ)) where
  abbrev board_before : Board
  board_before = board clues facts picture

  abbrev board_after : Board
  board_after = board clues_after facts_after picture_after

  pub named_keeps : (lines : Lines) (cells : List ℕ) → IsScene clues_after givens_after facts_after picture_after → IsPart facts_after cells
      → AreSameLines board_before board_after lines → NamesThrough lines cells → KeepsLines board_before board_after cells
  named_keeps lines cells s p same named line t =
      (same line (through_inside picture_after cells line (part_in_picture clues_after givens_after facts_after picture_after cells s p) t)).0 (named line t)

  keeps_named : (lines : Lines) (cells : List ℕ) → AreSameLines board_before board_after lines
      → KeepsLines board_before board_after cells → NamesThrough lines cells
  keeps_named lines cells same keeps line t = (same line (keeps line t).after).1 (keeps line t)

  pub part_before : FillingsStay → (cells : List ℕ) → IsPart facts_after cells → KeepsLines board_before board_after cells → IsPart facts cells
  part_before law cells p keeps = law.part clues_after clues facts_after picture_after facts picture cells (law.back clues clues_after facts picture facts_after picture_after cells keeps) p

  -- ---- what is known

  pub nothing_carried : (old : List KeptPart) (lines : Lines) (cells : List ℕ) → AreSameLines board_before board_after lines → (NamesThrough lines cells → ⊥)
      → IsCarried board_before board_after old cells Unknown
  nothing_carried old lines cells same none = record { keeps = λ keeps. absurd (none (keeps_named lines cells same keeps)); drops = λ n. refl }

  pub answer_carried : (old : List KeptPart) (at : ℕ) (cells : List ℕ) (answer : Answer) → KeepsLines board_before board_after cells → at < length old
      → cells_at old at ≡ cells → answer ≡ carried cells picture_after (answer_at old at) → IsCarried board_before board_after old cells answer
  answer_carried old at cells answer keeps l e same = record {
    keeps = λ k. (answer_at old at, (record { at = at; place = l; cells_are = e; answer_is = refl }, same));
    drops = λ n. absurd (n keeps);
  }

  still_true : FillingsStay → (givens : List ℕ) (cells : List ℕ) → IsScene clues givens facts picture → IsScene clues_after givens_after facts_after picture_after
      → KeepsLines board_before board_after cells → IsPart facts cells → (answer : Answer) → IsTrueOf clues givens picture cells answer
      → IsTrueOf clues_after givens_after picture_after cells (carried cells picture_after answer)
  still_true law givens cells s t keeps p Unknown known = tt
  still_true law givens cells s t keeps p Nothing known = law.none clues clues_after givens givens_after facts picture facts_after picture_after cells s t keeps p known
  still_true law givens cells s t keeps p (Filling other) known = law.carried clues clues_after givens givens_after facts picture facts_after picture_after other cells s t keeps p known

  pub carried_true : FillingsStay → (givens : List ℕ) (cells known_cells : List ℕ) (known answer : Answer) → IsScene clues givens facts picture
      → IsScene clues_after givens_after facts_after picture_after → KeepsLines board_before board_after cells → IsPart facts cells → known_cells ≡ cells
      → answer ≡ carried cells picture_after known → IsTrueOf clues givens picture known_cells known → IsTrueOf clues_after givens_after picture_after cells answer
  carried_true law givens cells known_cells known answer s t keeps p e same is =
      subst (λ (a : Answer). IsTrueOf clues_after givens_after picture_after cells a) (sym same)
      (still_true law givens cells s t keeps p known (subst (λ (x : List ℕ). IsTrueOf clues givens picture x known) e is))

-- where another filling of a part is known, that picture has all cells of the part
holds_cells : (clues : Clues) (givens : List ℕ) (facts : Masks) (picture : Rows) (cells : List ℕ) → IsScene clues givens facts picture → IsPart facts cells → (answer : Answer)
    → IsTrueOf clues givens picture cells answer → HoldsCells cells answer
holds_cells clues givens facts picture cells s p Unknown known = tt
holds_cells clues givens facts picture cells s p Nothing known = tt
holds_cells clues givens facts picture cells s p (Filling other) known = λ row col h.
    let i = part_in_picture clues givens facts picture cells s p row col h in
    let wide : width_of other ≡ width_of picture = known.is_other.solves.columns 0 in
    ((omega (arith, i.0)), (omega (arith, i.1)))

pub holds_known : (clues : Clues) (givens : List ℕ) (facts : Masks) (picture : Rows) (cells known_cells : List ℕ) (known : Answer) → IsScene clues givens facts picture → IsPart facts cells
    → known_cells ≡ cells → IsTrueOf clues givens picture known_cells known → HoldsCells cells known
holds_known clues givens facts picture cells known_cells known s p e is =
    holds_cells clues givens facts picture cells s p known (subst (λ (x : List ℕ). IsTrueOf clues givens picture x known) e is)

-- ---- the parts that are kept

pub same_place : SameCellsAreEqual → (facts : Masks) (kept : List KeptPart) (cells : List ℕ) (i row col : ℕ) → AreParts facts (parts_of kept) → IsPart facts cells → i < length kept
    → HasCell (cells_at kept i) row col → HasCell cells row col → cells_at kept i ≡ cells
same_place same facts kept cells i row col are p l h k = same_part same facts (cells_at kept i) cells row col (each_is_part facts kept are i l) p h k

pub none_lacks : (facts : Masks) (kept : List KeptPart) (cells : List ℕ) (row col : ℕ) → AreParts facts (parts_of kept) → IsPart facts cells → HasCell cells row col
    → ((i : ℕ) → i < length kept → HasCell (cells_at kept i) row col → ⊥) → ⊥
none_lacks facts kept cells row col are p h none =
    let held = are.all row col (part_open facts cells row col p h) in
    let count = length-map kept (λ (part : KeptPart). part.cells) in
    none held.0 (omega arith) (subst (λ (x : List ℕ). HasCell x row col) (part_of_kept kept held.0) held.1.1)

pub has_a_cell : (facts : Masks) (cells : List ℕ) → IsFacts facts → IsPart facts cells → ((row col : ℕ) → row < length facts → col < width_of facts → HasCell cells row col → ⊥) → ⊥
has_a_cell facts cells is p none =
    let h = has_first facts cells p in
    let i = part_inside facts cells p.row p.col is p h in
    none p.row p.col i.0 i.1 h

-- the place of a part among those that are kept
kept_place : SameCellsAreEqual → (facts : Masks) (kept : List KeptPart) (cells : List ℕ) → AreParts facts (parts_of kept) → IsPart facts cells
    → (i : ℕ) × ((i < length kept) × (cells_at kept i ≡ cells))
kept_place same facts kept cells are p =
    let h = has_first facts cells p in
    let held = are.all p.row p.col (part_open facts cells p.row p.col p h) in
    let count = length-map kept (λ (part : KeptPart). part.cells) in
    let near : held.0 < length kept = omega arith in
    (held.0, (near, same_place same facts kept cells held.0 p.row p.col are p near (subst (λ (x : List ℕ). HasCell x p.row p.col) (part_of_kept kept held.0) held.1.1) h))

-- where nothing is known of any part, nothing is carried
pub nothing_known : FillingsStay → SameCellsAreEqual → (clues : Clues) (facts : Masks) (picture : Rows) (clues_after : Clues) (givens_after : List ℕ) (facts_after : Masks) (picture_after : Rows)
    (old new : List KeptPart) → AreParts facts (parts_of old) → KnowsNothing old (length old) → Starts facts_after new
    → Carries (board clues facts picture) (board clues_after facts_after picture_after) old new
nothing_known law same clues facts picture clues_after givens_after facts_after picture_after old new are none starts = λ i l.
    let cells = cells_at new i in
    let p = each_is_part facts_after new starts.parts i l in
    subst (λ (answer : Answer). IsCarried (board clues facts picture) (board clues_after facts_after picture_after) old cells answer) (sym (starts.unknown i)) (record {
      keeps = λ keeps.
          let at = kept_place same facts old cells are (part_before clues facts picture clues_after givens_after facts_after picture_after law cells p keeps) in
          (Unknown, (record { at = at.0; place = at.1.0; cells_are = at.1.1; answer_is = none at.0 at.1.0 }, refl));
      drops = λ n. refl;
    })

pub carries_more : (clues : Clues) (facts : Masks) (picture : Rows) (clues_after : Clues) (givens_after : List ℕ) (facts_after : Masks) (picture_after : Rows) (old : List KeptPart)
    (parts : List (List ℕ)) (kept more : List KeptPart) (cells : List ℕ) (answer : Answer) (count : ℕ)
    → CarriesFirst (board clues facts picture) (board clues_after facts_after picture_after) givens_after old parts kept count
    → more ≡ kept ++ ((record { cells = cells; answer = answer }) ∷ []) → cells ≡ part_at parts count
    → IsCarried (board clues facts picture) (board clues_after facts_after picture_after) old cells answer
    → IsTrueOf clues_after givens_after picture_after cells answer → CarriesFirst (board clues facts picture) (board clues_after facts_after picture_after) givens_after old parts more (count + 1)
carries_more clues facts picture clues_after givens_after facts_after picture_after old parts kept more cells answer count c e same is known =
    let part : KeptPart = record { cells = cells; answer = answer } in
    let n = c.count_is in
    subst (λ (xs : List KeptPart). CarriesFirst (board clues facts picture) (board clues_after facts_after picture_after) givens_after old parts xs (count + 1)) (sym e) (record {
      count_is = (let m = length_push kept part in omega arith);
      cells = each_more (λ i x. x.cells ≡ part_at parts i) kept part count n c.cells same;
      carries = each_more (λ i x. IsCarried (board clues facts picture) (board clues_after facts_after picture_after) old x.cells x.answer) kept part count n c.carries is;
      true_answers = each_more (λ i x. IsTrueOf clues_after givens_after picture_after x.cells x.answer) kept part count n c.true_answers known;
    })

pub all_carried : (facts : Masks) (parts : List (List ℕ)) (kept : List KeptPart) (count : ℕ) → AreParts facts parts → length kept ≡ count → ((i : ℕ) → i < count → cells_at kept i ≡ part_at parts i)
    → count ≡ length parts → AreParts facts (parts_of kept)
all_carried facts parts kept count are n same e = subst (AreParts facts) (sym (same_parts kept parts (omega arith) (λ i l. same i (omega arith)))) are

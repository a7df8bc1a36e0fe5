-- How the search of a part ends where no allowance is set: within some splits of the fixed order, or with an answer that is true;
-- and what is found in a window.
use Rattle.std.proofs.Common.{◌≡◌, ℕ, ◌<◌, Option, None, Some, List, refl, subst, inl, inr, length, sym, ap, arith}
use Rattle.std.specs.Prelude.{IfSome, IsBitSet, slice_index}
use Rattle.clues.specs.ClueBook.{Clues}
use Rattle.clues.specs.Laws.{BooksAreTheirClues, CluesAreOfLines}
use Rattle.fixpoint.specs.Laws.{ClosingKeepsFillings, OnlyIsClosed}
use Rattle.second_search.specs.declared.counting.Ending.{Ending}
use Rattle.second_search.specs.declared.counting.Ending.TheVariants as ending
use Rattle.second_search.specs.Laws.{AnswersPart, FillingsAreOfFacts, SoundFacts}
use Rattle.second_search.specs.Parts.{IsOtherFilling, IsScene}
use Rattle.second_search.specs.FixedOrder.{EndsAs, EndsPast, EndsTrue, EndsWithin, KeepsOutside, alone, fixed_splits, raised}
use Rattle.second_search.proofs.EndLemmas.{filling_found, none_found, one_found}
use Rattle.picture.specs.CellSet.{HasCell, PutsCell}
use Rattle.picture.specs.LineSet.{Lines}
use Rattle.picture.specs.Rows.{cell_at, row_at, width_of, Rows}
use Rattle.second_search.specs.declared.counting.Ending.TheVariants.{Found}
use Rattle.second_search.specs.declared.near.Window.{Window}
use Rattle.second_search.specs.Near.{IsWindow, OpensIn}
use Rattle.second_search.specs.Through.{PutsBoth, across, down}
use Rattle.second_search.proofs.AloneLemmas.{lines_more}
use Rattle.line_facts.specs.FactSets.{IsLeast, Leaves}
use Rattle.fixpoint.specs.ClosedFacts.{EachFits}
use Rattle.line_facts.specs.Masks.{IsOnly, Masks}
use Rattle.line_facts.proofs.GridLaws.{shape_sym, shape_trans}
use Rattle.fixpoint.specs.Fillings.{Fills, only}
use Rattle.second_search.proofs.LookLemmas.{only_there}
use Rattle.second_search.proofs.PartLemmas.{solves_itself}
use Rattle.second_search.proofs.PickLemmas.{off_part, on_cells, rect_like, shape_of_picked}
use Rattle.picture.proofs.BitLaws.{bit_or_not}

-- ---- what an ending says of a part

module _ (law : CluesAreOfLines) (books : BooksAreTheirClues) (closing : ClosingKeepsFillings) (own : OnlyIsClosed) (fillings : FillingsAreOfFacts) (clues : Clues) (givens : List ℕ) (facts : Masks)
    (picture : Rows) (scene : IsScene clues givens facts picture) where
  pub part_answered : (cells : List ℕ) (most : ℕ) (ending : Ending) (n : ℕ) → EndsPast clues picture (alone cells facts picture) most ending n → AnswersPart clues givens picture cells ending
  part_answered cells most ending.Nothing n (inl e) = none_found law books closing own fillings clues givens facts picture scene cells n e.0.0
  part_answered cells most ending.Nothing n (inr e) = λ other is. let f = (fillings clues givens facts picture other cells scene).0 is in e.1 other f.0 f.1
  part_answered cells most (ending.Found other) n (inl e) = one_found law books closing own fillings clues givens facts picture scene cells other n e.0.0
  part_answered cells most (ending.Found other) n (inr e) = (fillings clues givens facts picture other cells scene).1 e.1
  part_answered cells most ending.BrokenOff n (inl e) = absurd (e.1 refl)
  part_answered cells most ending.BrokenOff n (inr e) = absurd e.1

  pub within_none : (cells : List ℕ) (allowance : Option ℕ) (n : ℕ) → EndsWithin clues picture (alone cells facts picture) allowance ending.Nothing n → (other : Rows)
      → IsOtherFilling clues givens picture cells other → ⊥
  within_none cells (Some most) n e = none_found law books closing own fillings clues givens facts picture scene cells n e.0
  within_none cells None n e = part_answered cells fixed_splits ending.Nothing n e

  pub within_one : (cells : List ℕ) (other : Rows) (allowance : Option ℕ) (n : ℕ) → EndsWithin clues picture (alone cells facts picture) allowance (ending.Found other) n
      → IsOtherFilling clues givens picture cells other
  within_one cells other (Some most) n e = one_found law books closing own fillings clues givens facts picture scene cells other n e.0
  within_one cells other None n e = part_answered cells fixed_splits (ending.Found other) n e

  pub fixed_true : (cells : List ℕ) (allowance : Option ℕ) (found : Ending) (n : ℕ) → (found ≡ ending.BrokenOff → ⊥) → EndsAs clues picture (alone cells facts picture) allowance found n
      → EndsTrue clues picture (alone cells facts picture) found
  fixed_true cells allowance ending.Nothing n d s =
      λ other fills differs. none_found law books closing own fillings clues givens facts picture scene cells n s.0 other ((fillings clues givens facts picture other cells scene).1 (fills, differs))
  fixed_true cells allowance (ending.Found other) n d s =
      (fillings clues givens facts picture other cells scene).0 (one_found law books closing own fillings clues givens facts picture scene cells other n s.0)
  fixed_true cells allowance ending.BrokenOff n d s = absurd (d refl)

-- ---- what the ladder says of a part

pub near_true : FillingsAreOfFacts → (clues : Clues) (givens : List ℕ) (facts : Masks) (picture : Rows) → IsScene clues givens facts picture → (cells : List ℕ) (near : Option (List (List ℕ)))
    (other : Rows) → near ≡ Some other → IfSome near (IsOtherFilling clues givens picture cells) → EndsTrue clues picture (alone cells facts picture) (ending.Found other)
near_true fillings clues givens facts picture scene cells near other e h =
    (fillings clues givens facts picture other cells scene).0 (subst (λ (x : Option (List (List ℕ))). IfSome x (IsOtherFilling clues givens picture cells)) e h)

-- ---- what is found in a window is another picture

-- a window stays one when an open cell of the part is put in with its lines
pub more_open : (facts : Masks) (part : List ℕ) (old : Window) (cells : List ℕ) (lines : Lines) (row col : ℕ) → row < length facts → col < width_of facts → HasCell part row col
    → IsWindow facts part old → PutsCell old.cells cells row col → PutsBoth row col old.lines lines → IsWindow facts part (record old { cells = cells; lines = lines })
more_open facts part old cells lines row col h l has is puts both = record {
  among = λ r c m. elim ((puts r c).0 m) [
    | inl before ↦ is.among r c before
    | inr e ↦
        rw e.0 (subst (λ (y : ℕ). HasCell part row y) (sym e.1) has)
  ];
  inside = λ r c m. elim ((puts r c).0 m) [
    | inl before ↦ is.inside r c before
    | inr e ↦ (rw e.0 h, rw e.1 l)
  ];
  lines = lines_more facts old.lines lines row col h l is.lines both;
  through = λ r c m. elim ((puts r c).0 m) [
    | inl before ↦ let n = is.through r c before in ((both (across r)).1 (inl n.0), (both (down c)).1 (inl n.1))
    | inr e ↦ ((both (across r)).1 (inr (inl (ap across e.0))), (both (down c)).1 (inr (inr (ap down e.1))))
  ];
}

-- facts opened in some cells leave no more than the facts on these
opened_leaves : OnlyIsClosed → (clues : Clues) (givens : List ℕ) (facts : Masks) (picture : Rows) → IsScene clues givens facts picture → (cells : List ℕ) (new : List (List ℕ))
    → OpensIn cells facts (only picture) new → (r c k : ℕ) → Leaves new r c k → Leaves (alone cells facts picture) r c k
opened_leaves own clues givens facts picture scene cells new opens r c k s =
    let shape = own.same_shape picture in
    let rect = rect_like picture (only picture) shape scene.is_picture.rectangular in
    let at_home : cell_at new r c ≡ cell_at (only picture) r c → (c < length (row_at picture r)) × (k ≡ cell_at picture r c) = λ e. (own.leaves picture r c k).0 (rw e at s) in
    elim (bit_or_not (slice_index cells r) c) [
      | inl has ↦
          rw (on_cells cells facts (only picture) r c rect (shape_trans (shape_sym scene.sound.same_shape) shape) has) (elim (opens.each r c) [
            | inl e ↦
                let h = at_home e in
                subst (λ (j : ℕ). IsBitSet (cell_at facts r c) j) (sym h.1) (scene.sound.leave picture (solves_itself clues givens facts picture scene) r c h.0)
            | inr o ↦ rw o.1 at s
          ])
      | inr out ↦
          rw (off_part cells facts (only picture) r c rect out) (elim (opens.each r c) [ inl e ↦ rw e at s | inr o ↦ absurd (out o.0) ])
    ]

-- and only the picture's colours outside of them
pub opened_outside : OnlyIsClosed → (cells : List ℕ) (picture : Rows) (facts : Masks) (new : List (List ℕ)) → OpensIn cells facts (only picture) new → KeepsOutside cells picture new
opened_outside own cells picture facts new opens =
    let shape = shape_trans (own.same_shape picture) opens.same_shape in
    record {
      same_shape = shape;
      outside = λ r c l out. elim (opens.each r c) [
        | inl e ↦ subst (λ (m : ℕ). IsOnly m (cell_at picture r c)) (sym e) (only_there own picture r c (let w = shape.each r in omega arith))
        | inr o ↦ absurd (out o.0)
      ];
    }

pub found_inside : CluesAreOfLines → BooksAreTheirClues → ClosingKeepsFillings → OnlyIsClosed → FillingsAreOfFacts → (clues : Clues) (givens : List ℕ) (facts : Masks) (picture : Rows)
    → IsScene clues givens facts picture → (cells : List ℕ) (new : List (List ℕ)) → OpensIn cells facts (only picture) new → (most : Option ℕ) (count : ℕ) (ending : Ending) (other : Rows)
    → ending ≡ Found other → (part : List ℕ) → ((r c : ℕ) → HasCell cells r c → HasCell part r c) → (n : ℕ) × ((count ≡ raised 0 n) × EndsAs clues picture new most ending n)
    → IsOtherFilling clues givens picture part other
found_inside law books closing own fillings clues givens facts picture scene cells new opens most count ending other f part among h =
    let ends : EndsAs clues picture new most (Found other) h.0 = subst (λ (x : Ending). EndsAs clues picture new most x h.0) f h.1.1 in
    let filled = filling_found law books closing clues picture new other h.0 scene.is_picture scene.has_clues (opened_outside own cells picture facts new opens).same_shape ends.0 in
    let shape = own.same_shape picture in
    let like = shape_of_picked cells facts (only picture) (rect_like picture (only picture) shape scene.is_picture.rectangular) in
    let fills : Fills clues (alone cells facts picture) other = record {
      is_picture = filled.0.is_picture;
      same_shape = shape_trans filled.0.same_shape (shape_trans (shape_sym opens.same_shape) (shape_sym like));
      has_clues = filled.0.has_clues;
      leaves = λ r c l. opened_leaves own clues givens facts picture scene cells new opens r c (cell_at other r c) (filled.0.leaves r c l);
    } in
    let one = (fillings clues givens facts picture other cells scene).1 (fills, filled.1) in
    record { is_other = one.is_other; elsewhere = λ row col off. one.elsewhere row col (λ has. off (among row col has)) }

-- ---- closed facts of a scene

pub scene_settled : SoundFacts → (clues : Clues) (givens : List ℕ) (picture : Rows) (facts settled : Masks) → IsScene clues givens facts picture → IsLeast clues facts settled × EachFits clues settled
    → IsScene clues givens settled picture
scene_settled law clues givens picture facts settled s h = record {
  is_picture = s.is_picture;
  has_clues = s.has_clues;
  sound = law.settled clues givens picture facts settled h.0 s.sound;
}

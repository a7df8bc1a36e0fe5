-- What a counted search finds is another picture that fills what waits, and where it finds none there is none.
use Rattle.std.proofs.Common.{◌≡◌, ℕ, ◌<◌, ◌↔◌, ◌^◌, Option, None, Some, List, [], ◌∷◌, ◌++◌, length, get_or, sym, ap, subst, ◌∙◌, arith, inl, inr}
use Rattle.std.specs.Prelude.{IsBitSet}
use Rattle.line_facts.specs.Masks.{Masks}
use Rattle.picture.specs.declared.line_id.Axis.{Axis}
use Rattle.picture.specs.declared.line_id.Axis.TheVariants.{Across, Down}
use Rattle.picture.specs.declared.line_id.LineId.{LineId}
use Rattle.picture.specs.Picture.{IsPicture}
use Rattle.picture.specs.Rows.{width_of, cell_at, line_of, lines_along, HasLine, Rows}
use Rattle.clues.specs.Clue.{clue_of}
use Rattle.clues.specs.ClueBook.{Clues, clues_along, clues_of}
use Rattle.clues.specs.Laws.{BooksAreTheirClues, CluesAreOfLines}
use Rattle.line_facts.specs.FactSets.{IsFacts, SameShape, col_on, row_on}
use Rattle.line_facts.proofs.AlongLaws.{place_on}
use Rattle.line_facts.proofs.GridLaws.{cell_on, same_has_line, same_line_length, same_list, shape_sym, shape_trans, shape_with_cell}
use Rattle.line_facts.specs.Branches.{branches, colours_of, held}
use Rattle.fixpoint.specs.ClosedFacts.{EachFits}
use Rattle.fixpoint.specs.Fillings.{Fills, only}
use Rattle.fixpoint.specs.Laws.{ClosingKeepsFillings, OnlyIsClosed}
use Rattle.second_search.specs.SettledFacts.{FillsSome}
use Rattle.second_search.specs.SettledFacts.{Shows}
use Rattle.second_search.specs.FixedOrder.{Searches, alone, none_waits, is_dead, is_known, is_other, is_split}
use Rattle.second_search.specs.Laws.{FillingsAreOfFacts}
use Rattle.second_search.specs.Parts.{IsOtherFilling, IsScene}
use Rattle.second_search.proofs.FindLemmas.{some_behind, some_both, some_front, split_fills}
use Rattle.second_search.proofs.LookLemmas.{one_filling, shown_fills}
use Rattle.second_search.proofs.PickLemmas.{rect_like, shape_of_picked}

-- ---- the clues of a picture that settled facts show

-- the facts have the sizes of the clues
pub record IsSized (clues : Clues) (facts : Masks) : Type 0 where
  pub rows : length facts ≡ length clues.rows
  pub columns : width_of facts ≡ length clues.columns

sized_like : (clues : Clues) (a b : List (List ℕ)) → SameShape a b → IsSized clues a → IsSized clues b
sized_like clues a b s h = record { rows = sym s.rows ∙ h.rows; columns = sym (s.each 0) ∙ h.columns }

sizes_along : (clues : Clues) (picture : Rows) (settled : Masks) (axis : Axis) → SameShape picture settled → IsSized clues settled → lines_along axis picture ≡ length (clues_along axis clues)
sizes_along clues picture settled Across s h = s.rows ∙ h.rows
sizes_along clues picture settled Down s h = s.each 0 ∙ h.columns

shown_line : (clues : Clues) (settled : Masks) (picture : Rows) (line : LineId) (own : List ℕ) → IsFacts settled → Shows settled picture → HasLine settled line
    → length own ≡ length (line_of settled line) → ((i : ℕ) → i < length (line_of settled line) → IsBitSet (get_or (line_of settled line) i 0) (get_or own i 0)) → own ≡ line_of picture line
shown_line clues settled picture line own is s has len keeps =
    let same = same_line_length picture settled line s.same_shape in
    same_list own (line_of picture line) (omega arith) (λ i l.
    let row = row_on line.axis line.at i in
    let col = col_on line.axis line.at i in
    let p = place_on settled line i is has (omega arith) in
    let only = s.only row col p.0 p.1 in
    (only (get_or own i 0)).0 (subst (λ (m : ℕ). IsBitSet m (get_or own i 0)) (cell_on settled line i) (keeps i (omega arith))) ∙ sym (cell_on picture line i))

pub shown_clues : CluesAreOfLines → BooksAreTheirClues → (clues : Clues) (settled : Masks) (picture : Rows) → IsFacts settled → EachFits clues settled → Shows settled picture → IsSized clues settled
    → clues_of picture ≡ clues
shown_clues law books clues settled picture is fits s sized = books (clues_of picture) clues
    (λ axis. law.sizes picture axis ∙ sizes_along clues picture settled axis s.same_shape sized)
    (λ line has.
    let there : HasLine picture line = (let e = law.sizes picture line.axis in omega arith) in
    let inside = same_has_line picture settled line s.same_shape there in
    let f = fits line inside in
    let same = shown_line clues settled picture line f.0 is s inside f.1.same_length f.1.keeps in
    law.clues picture line there ∙ (ap clue_of (sym same) ∙ f.1.has_clue))

-- ---- what is found

-- a picture other than the known one fills some of what waits, or none does
abbrev pub FindsAmong : Clues → Rows → List Masks → Option (List (List ℕ)) → Type 0
FindsAmong clues known waiting None = (picture : Rows) → (picture ≡ known → ⊥) → FillsSome clues waiting picture → ⊥
FindsAmong clues known waiting (Some picture) = (picture ≡ known → ⊥) × FillsSome clues waiting picture

same_finds : (clues : Clues) (known : Rows) (waiting : List Masks) (after : List (List (List ℕ))) (found : Option Rows) → ((picture : Rows) → (picture ≡ known → ⊥) → FillsSome clues waiting picture
    → FillsSome clues after picture) → ((picture : Rows) → FillsSome clues after picture → FillsSome clues waiting picture) → FindsAmong clues known after found → FindsAmong clues known waiting found
same_finds clues known waiting after None on back h = λ picture d f. h picture d (on picture d f)
same_finds clues known waiting after (Some picture) on back h = (h.0, back picture h.1)

abbrev pub AreSized : Clues → List (List (List ℕ)) → Type 0
AreSized clues [] = Unit {0}
AreSized clues (facts ∷ others) = IsSized clues facts × AreSized clues others

held_sized : (clues : Clues) (settled : Masks) (row col : ℕ) (others : List Masks) → IsSized clues settled → AreSized clues others → (ks : List ℕ) → AreSized clues (held settled row col ks ++ others)
held_sized clues settled row col others s o [] = o
held_sized clues settled row col others s o (k ∷ ks) = (sized_like clues settled _ (shape_with_cell settled row col (2 ^ k)) s, held_sized clues settled row col others s o ks)

module _ (law : CluesAreOfLines) (books : BooksAreTheirClues) (closing : ClosingKeepsFillings) (clues : Clues) (known : Rows) where
  pub finds_among : (waiting : List Masks) (found : Option Rows) (n : ℕ) → Searches clues known waiting found n → AreSized clues waiting → FindsAmong clues known waiting found
  finds_among _ _ _ none_waits sized = λ picture d f. f
  finds_among _ _ _ (is_dead facts others found n c s) sized = same_finds clues known (facts ∷ others) others found
      (λ picture d f. elim f [ inl here ↦ absurd (closing.none_where_dead clues facts picture c here) | inr there ↦ there ])
      (λ picture f. inr f)
      (finds_among others found n s sized.1)
  finds_among _ _ _ (is_known facts others found n c s) sized = same_finds clues known (facts ∷ others) others found
      (λ picture d f. elim f [
        | inl here ↦ absurd (d (one_filling clues c.0 known picture c.1.0.are_facts c.1.1 ((closing.least clues facts c.0 picture c.1.0.least).0 here)))
        | inr there ↦ there
      ])
      (λ picture f. inr f)
      (finds_among others found n s sized.1)
  finds_among _ _ _ (is_other facts others picture c d) sized =
      let size = sized_like clues facts c.0 c.1.0.least.holds.same_shape sized.0 in
      let has = shown_clues law books clues c.0 picture c.1.0.are_facts c.1.0.fits c.1.1 size in
      (d, inl ((closing.least clues facts c.0 picture c.1.0.least).1 (shown_fills clues c.0 picture c.1.0.are_facts c.1.1 has)))
  finds_among _ _ _ (is_split facts others settled cell found n c s) sized =
      let at = c.1.is in
      let front = branches settled cell.row cell.col (cell_at settled cell.row cell.col) in
      let size = sized_like clues facts settled c.0.least.holds.same_shape sized.0 in
      let split : (picture : Rows)
      → Fills clues settled picture ↔ FillsSome clues front picture = λ picture. split_fills clues settled picture cell.row cell.col c.0.are_facts at.in_rows at.in_columns in
      same_finds clues known (facts ∷ others) (front ++ others) found
      (λ picture d f. elim f [
        | inl here ↦ some_front clues front others picture ((split picture).0 ((closing.least clues facts settled picture c.0.least).0 here))
        | inr there ↦ some_behind clues front others picture there
      ])
      (λ picture f. elim (some_both clues front others picture f) [
        | inl here ↦ inl ((closing.least clues facts settled picture c.0.least).1 ((split picture).1 here))
        | inr there ↦ inr there
      ])
      (finds_among (front ++ others) found n s (held_sized clues settled cell.row cell.col others size sized.1 (colours_of (cell_at settled cell.row cell.col))))

sized_of : CluesAreOfLines → (clues : Clues) (picture : Rows) (facts : Masks) → clues_of picture ≡ clues → SameShape picture facts → IsSized clues facts
sized_of law clues picture facts e shape =
    let own : IsSized (clues_of picture) picture = record { rows = sym (law.sizes picture Across); columns = sym (law.sizes picture Down) } in
    sized_like clues picture facts shape (rw e at own)

-- what is found from facts of the known picture's size is another picture that fills them
pub filling_found : CluesAreOfLines → BooksAreTheirClues → ClosingKeepsFillings → (clues : Clues) (known : Rows) (facts : Masks) (other : Rows) (n : ℕ) → IsPicture known → clues_of known ≡ clues
    → SameShape known facts → Searches clues known (facts ∷ []) (Some other) n → Fills clues facts other × (other ≡ known → ⊥)
filling_found law books closing clues known facts other n is e shape s =
    let among : FindsAmong clues known (facts ∷ []) (Some other) = finds_among law books closing clues known (facts ∷ []) (Some other) n s (sized_of law clues known facts e shape, tt) in
    (elim among.1 [ inl f ↦ f | inr none ↦ absurd none ], among.0)

-- ---- the search of a part

-- the facts of a part have the sizes of the clues
sized_alone : CluesAreOfLines → OnlyIsClosed → (clues : Clues) (facts : Masks) (picture : Rows) (cells : List ℕ) → IsPicture picture → clues_of picture ≡ clues
    → IsSized clues (alone cells facts picture)
sized_alone law own clues facts picture cells is e =
    let shape = own.same_shape picture in
    let onto = shape_of_picked cells facts (only picture) (rect_like picture (only picture) shape is.rectangular) in
    sized_of law clues picture (alone cells facts picture) e (shape_trans shape (shape_sym onto))

module _ (law : CluesAreOfLines) (books : BooksAreTheirClues) (closing : ClosingKeepsFillings) (own : OnlyIsClosed) (fillings : FillingsAreOfFacts) (clues : Clues) (givens : List ℕ) (facts : Masks)
    (picture : Rows) (scene : IsScene clues givens facts picture) where
  pub none_found : (cells : List ℕ) (n : ℕ) → Searches clues picture (alone cells facts picture ∷ []) None n → (other : Rows) → IsOtherFilling clues givens picture cells other → ⊥
  none_found cells n s other is =
      let among : FindsAmong clues picture (alone cells facts picture ∷ []) None =
      finds_among law books closing clues picture (alone cells facts picture ∷ []) None n s (sized_alone law own clues facts picture cells scene.is_picture scene.has_clues, tt) in
      let f = (fillings clues givens facts picture other cells scene).0 is in
      among other f.1 (inl f.0)

  pub one_found : (cells : List ℕ) (other : Rows) (n : ℕ) → Searches clues picture (alone cells facts picture ∷ []) (Some other) n → IsOtherFilling clues givens picture cells other
  one_found cells other n s =
      let among : FindsAmong clues picture (alone cells facts picture ∷ []) (Some other) =
      finds_among law books closing clues picture (alone cells facts picture ∷ []) (Some other) n s (sized_alone law own clues facts picture cells scene.is_picture scene.has_clues, tt) in
      (fillings clues givens facts picture other cells scene).1 (elim among.1 [ inl f ↦ f | inr none ↦ absurd none ], among.0)

-- A given adds nothing where lines settle its cell without it; and going through the givens in order.
use Rattle.std.proofs.Common.{◌≡◌, ℕ, ◌+◌, ◌*◌, ◌<◌, ◌≤◌, Bool, true, false, List, Option, None, Some, Result, Ok, Err, IfOk, length, refl, sym, ap, subst, ◌∙◌, arith, inl, inr}
use Rattle.std.specs.Prelude.{IsBitSet, MatchOption, is_some}
use Rattle.std.proofs.lemmas.Bool.{cases_eq, cases_lt}
use Rattle.picture.specs.CellSet.{HasCell, TakesOutCell, cell_count}
use Rattle.picture.specs.Document.{AreInside}
use Rattle.picture.specs.Picture.{IsPicture}
use Rattle.picture.specs.Rows.{width_of, row_at, cell_at, Rows}
use Rattle.picture.proofs.BitLaws.{no_bit}
use Rattle.clues.specs.ClueBook.{clues_of}
use Rattle.clues.specs.Solution.{IsOnlySolution, Solves}
use Rattle.line_facts.specs.FactSets.{IsBase, IsWithin, Leaves, SameShape}
use Rattle.line_facts.specs.Masks.{IsOnly, Masks}
use Rattle.line_facts.proofs.GridLaws.{shape_sym, shape_trans}
use Rattle.second_search.specs.Evaluations.{most_to_close}
use Rattle.second_search.specs.Parts.{IsOpenCell, IsScene}
use Rattle.second_search.proofs.PartLemmas.{settled_there, solves_itself}
use Rattle.second_search.proofs.PickLemmas.{outside_is_0}
use Rattle.trail.specs.declared.cell.Cell.{Cell}
use Rattle.assess.specs.Settling.{IsMap}
use Rattle.assess.specs.Spares.{AddsNothing, AreNeededBefore, ComesBefore, HasMap, IsNeededAt, IsSettledIf, IsSpare, IsSpareAt, LeavesSameOpen, SettlesWithout, Without}
use Rattle.assess.proofs.MapLemmas.{cell_inside, scene_is}
use Rattle.assess.proofs.OrderLemmas.{before_next, none_before, row_ended}

-- ---- a given left out

map_shape : (picture : Rows) (givens : List ℕ) (map : Masks) → IsMap picture givens map → SameShape picture map
map_shape picture givens map m = shape_trans m.1.0.same_shape m.1.1.holds.same_shape

-- a cell in which a colour is left lies in the picture
left_inside : (picture : Rows) (facts : Masks) (row col k : ℕ) → IsPicture picture → SameShape picture facts → Leaves facts row col k → (row < length picture) × (col < width_of picture)
left_inside picture facts row col k is shape l =
    let same = shape.each row in
    elim (cases_lt col (length (row_at facts row))) [
      | inl near ↦ cell_inside picture row col is (omega arith)
      | inr past ↦ absurd (no_bit k (subst (λ (m : ℕ). IsBitSet m k) (outside_is_0 facts row col past) l))
    ]

module _ (picture : Rows) (givens others : List ℕ) (row col : ℕ) (before after : Masks) (is : IsPicture picture) (takes : TakesOutCell givens others row col)
    (map_before : IsMap picture givens before) (map_after : IsMap picture others after) where
  remains : (r c : ℕ) → HasCell others r c → HasCell givens r c
  remains r c h = ((takes r c).0 h).0

  scene : IsScene (clues_of picture) others after picture
  scene = scene_is (clues_of picture) picture others after is refl map_after

  -- what is left with the given is left without it
  still_left : IsWithin after before
  still_left = map_after.1.1.least before map_before.1.1.closed record {
    same_shape = shape_trans (shape_sym map_after.1.0.same_shape) (map_shape picture givens before map_before);
    leaves = λ r c k l.
        let inside = left_inside picture before r c k is (map_shape picture givens before map_before) l in
        let o = (map_before.1.0.left r c k inside.0 inside.1).0 (map_before.1.1.holds.leaves r c k l) in
        (map_after.1.0.left r c k inside.0 inside.1).1 (o.0, (λ h. o.1 (remains r c h)));
  }

  -- a cell of a given is not open
  given_closed : HasCell givens row col → IsOpenCell before row col → ⊥
  given_closed g o =
      let only : (k : ℕ) → Leaves before row col k → k ≡ cell_at picture row col = λ k l.
      let inside = left_inside picture before row col k is (map_shape picture givens before map_before) l in
      ((map_before.1.0.left row col k inside.0 inside.1).0 (map_before.1.1.holds.leaves row col k l)).1 g in
      o.4 (only o.0 o.2 ∙ sym (only o.1 o.3))

  -- where the same cells are open, lines settle the cell without the given
  same_settles : HasCell givens row col → LeavesSameOpen before after → row < length picture → col < width_of picture → IsOnly (cell_at after row col) (cell_at picture row col)
  same_settles g same h w = settled_there (clues_of picture) others after picture row col scene h w (λ o. given_closed g ((same row col).1 o))

  module _ (h : row < length picture) (w : col < width_of picture) (k : ℕ) (only : IsOnly (cell_at after row col) k) where
    -- the colour that lines settle is the picture's
    own : (j : ℕ) → Leaves after row col j → j ≡ cell_at picture row col
    own j l =
        let long : col < length (row_at picture row) = (let r = is.rectangular row h in omega arith) in
        (only j).0 l ∙ sym ((only (cell_at picture row col)).0 (scene.sound.leave picture (solves_itself (clues_of picture) others after picture scene) row col long))

    own_there : (r c j : ℕ) → r ≡ row → c ≡ col → Leaves after r c j → j ≡ cell_at picture r c
    own_there r c j e f l =
        let there : Leaves after row col j = subst (λ (x : ℕ). Leaves after x col j) e (subst (λ (y : ℕ). Leaves after r y j) f l) in
        own j there ∙ sym (ap (λ (x : ℕ). cell_at picture x c) e ∙ ap (λ (y : ℕ). cell_at picture row y) f)

    -- so what is left without the given is left with it
    left_too : IsWithin before after
    left_too = map_before.1.1.least after map_after.1.1.closed record {
      same_shape = shape_trans (shape_sym map_before.1.0.same_shape) (map_shape picture others after map_after);
      leaves = λ r c j l.
          let inside = left_inside picture after r c j is (map_shape picture others after map_after) l in
          let o = (map_after.1.0.left r c j inside.0 inside.1).0 (map_after.1.1.holds.leaves r c j l) in
          let has : HasCell givens r c → j ≡ cell_at picture r c = λ g. elim (cases_eq r row) [
            | inl e ↦ elim (cases_eq c col) [ inl f ↦ own_there r c j e f l | inr d ↦ o.1 ((takes r c).1 (g, (λ s. d s.1))) ]
            | inr d ↦ o.1 ((takes r c).1 (g, (λ s. d s.0)))
          ] in
          (map_before.1.0.left r c j inside.0 inside.1).1 (o.0, has);
    }

    same_open : LeavesSameOpen before after
    same_open r c = (
      (λ o. (o.0, o.1, still_left.leaves r c o.0 o.2, still_left.leaves r c o.1 o.3, o.4)),
      (λ o. (o.0, o.1, left_too.leaves r c o.0 o.2, left_too.leaves r c o.1 o.3, o.4)),
    )

    -- and there is still one solution
    still_one : IsOnlySolution (clues_of picture) (HasCell givens) picture → IsOnlySolution (clues_of picture) (HasCell others) picture
    still_one one other s =
        let long : col < length (row_at other row) = (let r = is.rectangular row h in let same = s.columns row in omega arith) in
        let here : cell_at other row col ≡ cell_at picture row col = own (cell_at other row col) (scene.sound.leave other s row col long) in
        let there : (r c : ℕ) → r ≡ row → c ≡ col → cell_at other r c ≡ cell_at picture r c = λ r c e f.
        let P : ℕ → ℕ → Type 0 = λ x y. cell_at other x y ≡ cell_at picture x y in
        subst (λ (x : ℕ). P x c) (sym e) (subst (λ (y : ℕ). P row y) (sym f) here) in
        one other record {
          is_picture = s.is_picture;
          rows = s.rows;
          columns = s.columns;
          has_clues = s.has_clues;
          keeps_givens = λ r c g. elim (cases_eq r row) [
            | inl e ↦ elim (cases_eq c col) [ inl f ↦ there r c e f | inr d ↦ s.keeps_givens r c ((takes r c).1 (g, (λ x. d x.1))) ]
            | inr d ↦ s.keeps_givens r c ((takes r c).1 (g, (λ x. d x.0)))
          ];
        }

-- ---- whether the given is needed

module _ (picture : Rows) (givens : List ℕ) (is : IsPicture picture) (inside : AreInside givens picture) (mapped : HasMap picture givens) (row col : ℕ) (given : HasCell givens row col) where
  abbrev without_by : (settled : Bool) → SettlesWithout picture givens row col settled → Without picture givens row col
  without_by settled s = record {
    others = s.others;
    left_out = s.left_out;
    map_with = mapped.0;
    is_map_with = mapped.1;
    map_without = s.map;
    is_map_without = s.is_map;
  }

  pub needed_if : (settled : Bool) → settled ≡ false → SettlesWithout picture givens row col settled → IsNeededAt picture givens row col
  needed_if true e s = absurd cc
  needed_if false e s = record {
    without = without_by false s;
    adds_some = λ nothing. s.settled_if (cell_at picture row col)
        (same_settles picture givens s.others row col mapped.0 s.map is s.left_out mapped.1 s.is_map given nothing.1 (inside row col given).0 (inside row col given).1);
  }

  pub spare_if : (settled : Bool) → settled ≡ true → IsOnlySolution (clues_of picture) (HasCell givens) picture → SettlesWithout picture givens row col settled → IsSpareAt picture givens row col
  spare_if false e one s = absurd cc
  spare_if true e one s =
      let h = (inside row col given).0 in
      let w = (inside row col given).1 in
      record {
        given = given;
        without = without_by true s;
        adds_nothing = (
          still_one picture givens s.others row col mapped.0 s.map is s.left_out mapped.1 s.is_map h w s.settled_if.0 s.settled_if.1 one,
          same_open picture givens s.others row col mapped.0 s.map is s.left_out mapped.1 s.is_map h w s.settled_if.0 s.settled_if.1,
        );
      }

-- ---- one given left out

pub settled_so : (shown : Option ℕ) (mask : ℕ) → MatchOption shown ((k : ℕ) → IsOnly mask k → ⊥) (λ k. IsOnly mask k) → IsSettledIf (is_some shown) mask
settled_so None mask none = none
settled_so (Some k) mask only = (k, only)

pub map_tall : (picture : Rows) (givens : List ℕ) (map : Masks) → IsMap picture givens map → length picture ≡ length map
map_tall picture givens map m = (map_shape picture givens map m).rows

pub map_wide : (picture : Rows) (givens : List ℕ) (map : Masks) → IsMap picture givens map → width_of picture ≡ width_of map
map_wide picture givens map m = (map_shape picture givens map m).each 0

pub settles_as : (picture shown : Rows) (givens copied others : List ℕ) (row col : ℕ) (map : Masks) (settled : Bool) → shown ≡ picture → copied ≡ givens
    → TakesOutCell copied others row col → IsMap shown others map → IsSettledIf settled (cell_at map row col) → SettlesWithout picture givens row col settled
settles_as picture shown givens copied others row col map settled p g takes m so = record {
  others = others;
  left_out = subst (λ (cells : List ℕ). TakesOutCell cells others row col) g takes;
  map = map;
  is_map = subst (λ (rows : Rows). IsMap rows others map) p m;
  settled_if = so;
}

-- ---- places

-- each given before a place is needed, and the others wait; those that do not took their share of the calls
pub record Tried (picture : Rows) (givens waiting : List ℕ) (row col before now : ℕ) : Type 0 where
  pub so_far : AreNeededBefore picture givens row col
  pub waits : (r c : ℕ) → HasCell givens r c → (ComesBefore r c row col → ⊥) → HasCell waiting r c
  pub are : (r c : ℕ) → HasCell waiting r c → HasCell givens r c
  pub few : now + cell_count waiting * most_to_close picture ≤ before + cell_count givens * most_to_close picture

pub one_less : (most waiting rest all before now later : ℕ) → rest + 1 ≡ waiting → now + waiting * most ≤ before + all * most → later ≤ now + most → later + rest * most ≤ before + all * most
one_less most waiting rest all before now later e t one =
    let same : (rest + 1) * most ≡ waiting * most = ap (λ (n : ℕ). n * most) e in
    omega arith

module _ (picture : Rows) (givens : List ℕ) where
  -- one place further, where the given there is needed
  further : (row col : ℕ) → (HasCell givens row col → IsNeededAt picture givens row col) → AreNeededBefore picture givens row col → AreNeededBefore picture givens row (col + 1)
  further row col here none r c b g = elim (before_next r c row col b) [
    | inl earlier ↦ none r c earlier g
    | inr same ↦
        let P : ℕ → ℕ → Type 0 = λ x y. IsNeededAt picture givens x y in
        let h = here (subst (λ (x : ℕ). HasCell givens x col) same.0 (subst (λ (y : ℕ). HasCell givens r y) same.1 g)) in
        subst (λ (x : ℕ). P x c) (sym same.0) (subst (λ (y : ℕ). P row y) (sym same.1) h)
  ]

  still_waits : (row col r c : ℕ) → (ComesBefore r c row (col + 1) → ⊥) → ComesBefore r c row col → ⊥
  still_waits row col r c n (inl l) = n (inl l)
  still_waits row col r c n (inr (e, l)) = n (inr (e, (let m : c < col + 1 = omega arith in m)))

  not_itself : (row col : ℕ) → ComesBefore row col row col → ⊥
  not_itself row col (inl l) = absurd (omega arith)
  not_itself row col (inr (e, l)) = absurd (omega arith)

  pub skipped : (waiting : List ℕ) (row col before now : ℕ) → Tried picture givens waiting row col before now → (HasCell waiting row col → ⊥)
      → Tried picture givens waiting row (col + 1) before now
  skipped waiting row col before now t n = record {
    so_far = further row col (λ g. absurd (n (t.waits row col g (not_itself row col)))) t.so_far;
    waits = λ r c g b. t.waits r c g (still_waits row col r c b);
    are = t.are;
    few = t.few;
  }

  pub one_more : (waiting rest : List ℕ) (row col before now later : ℕ) → Tried picture givens waiting row col before now → TakesOutCell waiting rest row col
      → cell_count rest + 1 ≡ cell_count waiting → IsNeededAt picture givens row col → later ≤ now + most_to_close picture → Tried picture givens rest row (col + 1) before later
  one_more waiting rest row col before now later t takes count needed one = record {
    so_far = further row col (λ g. needed) t.so_far;
    waits = λ r c g b. (takes r c).1 (t.waits r c g (still_waits row col r c b), (λ same. b (inr (same.0, (let l : c < col + 1 = (let x = same.1 in omega arith) in l)))));
    are = λ r c x. t.are r c ((takes r c).0 x).0;
    few = one_less (most_to_close picture) (cell_count waiting) (cell_count rest) (cell_count givens) before now later count t.few one;
  }

  pub none_tried : (calls : ℕ) → Tried picture givens givens 0 0 calls calls
  none_tried calls = record {
    so_far = λ r c b. absurd (none_before r c b);
    waits = λ r c g b. g;
    are = λ r c g. g;
    few = omega arith;
  }

  pub all_tried : (row : ℕ) → AreInside givens picture → length picture ≤ row → AreNeededBefore picture givens row 0 → IsSpare picture givens None
  all_tried row inside l none r c g = none r c (inl (let i = (inside r c g).0 in let m : r < row = omega arith in m)) g

  pub next_row : (waiting : List ℕ) (row col before now : ℕ) → AreInside givens picture → width_of picture ≤ col → Tried picture givens waiting row col before now
      → Tried picture givens waiting (row + 1) 0 before now
  next_row waiting row col before now inside w t = record {
    so_far = λ r c b g. t.so_far r c (row_ended picture givens row col r c inside w b g) g;
    waits = λ r c g b. t.waits r c g (λ e. b (up r c e));
    are = t.are;
    few = t.few;
  }
    where
      up : (r c : ℕ) → ComesBefore r c row col → ComesBefore r c (row + 1) 0
      up r c (inl l) = inl (let m : r < row + 1 = omega arith in m)
      up r c (inr (e, l)) = inl (let m : r < row + 1 = omega arith in m)

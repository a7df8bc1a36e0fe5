-- The facts that wait in a search: nothing that fills the first facts gets lost; and sound facts.
use Rattle.std.proofs.Common.{◌≡◌, ℕ, ◌^◌, ◌<◌, ◌≤◌, ◌⊎◌, ◌↔◌, ◌==◌, Bool, true, false, cond, eqb-true, Option, None, Some, List, [], ◌∷◌, ◌++◌, length, replicate, refl, sym, ap, subst, ◌∙◌, arith}
use Rattle.std.proofs.Common.{inl, inr}
use Rattle.std.specs.Prelude.{IsBitSet}
use Rattle.std.specs.List.{filter, range_with_len}
use Rattle.std.specs.Int.{bit_at}
use Rattle.std.proofs.lemmas.Bool.{cases_lt}
use Rattle.std.proofs.lemmas.List.{get_or_past, get_or-replicate, length-replicate}
use Rattle.line_facts.specs.Masks.{Masks}
use Rattle.picture.specs.declared.line_id.Axis.{Axis}
use Rattle.picture.specs.declared.line_id.Axis.TheVariants.{Across, Down}
use Rattle.picture.specs.CellSet.{HasCell, PutsCell}
use Rattle.picture.specs.Picture.{IsPicture}
use Rattle.picture.specs.Rows.{width_of, row_at, cell_at, lines_along, with_cell, Rows}
use Rattle.clues.specs.ClueBook.{Clues, clues_along, clues_of}
use Rattle.line_facts.specs.FactSets.{IsFacts, IsWithin, Leaves, SameShape, IsBase, IsLeast, nothing_excluded, with_given}
use Rattle.fixpoint.specs.ClosedFacts.{AreClosable}
use Rattle.fixpoint.proofs.FillingLaws.{fills_fewer}
use Rattle.fixpoint.specs.Fillings.{Fills}
use Rattle.second_search.specs.SettledFacts.{FillsSome}
use Rattle.second_search.specs.SettledFacts.{FindsFilling}
use Rattle.second_search.specs.Other.{AreSound, FindsFirst, FindsOther, HasClues}
use Rattle.line_facts.proofs.GridLaws.{shape_refl, shape_sym, shape_trans, shape_with_cell, full_shape, all_left}
use Rattle.picture.proofs.BitLaws.{bit_is_set, power_has, no_bit}
use Rattle.clues.specs.Solution.{Solves}
use Rattle.line_facts.proofs.SolutionLaws.{solved_shape}
use Rattle.line_facts.specs.Branches.{branches, colours_of, held}
use Rattle.trail.proofs.ColourLemmas.{Among, among_colours}
use Rattle.trail.proofs.GridLemmas.{set_each, row_there}
use Rattle.fixpoint.specs.Laws.{ClosingKeepsFillings}
use Rattle.second_search.specs.Laws.{SoundFacts}
use Rattle.clues.proofs.SolutionLaws.{solves_fewer}

-- ---- a cell held to each of its colours

-- a picture fills facts with a cell held exactly where it fills the facts and has the colour there
held_fills : (clues : Clues) (facts : Masks) (picture : Rows) (row col k : ℕ) → row < length facts → col < length (row_at facts row) → Fills clues facts picture → cell_at picture row col ≡ k
    → Fills clues (with_cell facts row col (2 ^ k)) picture
held_fills clues facts picture row col k h l f e = record {
  is_picture = f.is_picture;
  same_shape = shape_trans f.same_shape (shape_with_cell facts row col (2 ^ k));
  has_clues = f.has_clues;
  leaves = set_each facts row col (2 ^ k) h l (λ r c x. c < length (row_at picture r) → IsBitSet x (cell_at picture r c)) (λ m. (power_has k (cell_at picture row col)).1 e) (λ r c d. f.leaves r c);
}

pub held_within : (facts : Masks) (row col k : ℕ) → row < length facts → col < length (row_at facts row) → Leaves facts row col k → IsWithin facts (with_cell facts row col (2 ^ k))
held_within facts row col k h l s = record {
  same_shape = shape_with_cell facts row col (2 ^ k);
  leaves = λ r c j.
      set_each facts row col (2 ^ k) h l (λ r c x. IsBitSet x j → Leaves facts r c j) (λ t. subst (λ (i : ℕ). Leaves facts row col i) (sym ((power_has k j).0 t)) s) (λ r c d t. t) r c;
}

pub some_held : (clues : Clues) (facts : Masks) (picture : Rows) (row col : ℕ) → row < length facts → col < length (row_at facts row) → Fills clues facts picture → (ks : List ℕ)
    → Among ks (cell_at picture row col) → FillsSome clues (held facts row col ks) picture
some_held clues facts picture row col h l f [] a = absurd a
some_held clues facts picture row col h l f (k ∷ ks) a = elim a [
  | inl e ↦ inl (held_fills clues facts picture row col k h l f e)
  | inr m ↦ inr (some_held clues facts picture row col h l f ks m)
]

abbrev pub Each : (ℕ → Type 0) → List ℕ → Type 0
Each P [] = Unit {0}
Each P (x ∷ xs) = P x × Each P xs

pub held_some : (clues : Clues) (facts : Masks) (picture : Rows) (row col : ℕ) → row < length facts → col < length (row_at facts row) → (ks : List ℕ) → Each (Leaves facts row col) ks
    → FillsSome clues (held facts row col ks) picture → Fills clues facts picture
held_some clues facts picture row col h l [] a s = absurd s
held_some clues facts picture row col h l (k ∷ ks) a s = elim s [
  | inl f ↦ fills_fewer clues facts (with_cell facts row col (2 ^ k)) picture (held_within facts row col k h l a.0) f
  | inr m ↦ held_some clues facts picture row col h l ks a.1 m
]

-- ---- the colours of a mask

each_step : (p : ℕ → Bool) (P : ℕ → Type 0) (x : ℕ) (xs : List ℕ) (b : Bool) → p x ≡ b → (p x ≡ true → P x) → Each P (filter p xs) → Each P (filter p (x ∷ xs))
each_step p P x xs true e h r = let Q : List ℕ → Type 0 = λ ys. Each P ys in subst Q (sym (ap (λ (t : Bool). cond t (x ∷ filter p xs) (filter p xs)) e)) (h e, r)
each_step p P x xs false e h r = let Q : List ℕ → Type 0 = λ ys. Each P ys in subst Q (sym (ap (λ (t : Bool). cond t (x ∷ filter p xs) (filter p xs)) e)) r

each_kept : (p : ℕ → Bool) (P : ℕ → Type 0) → ((x : ℕ) → p x ≡ true → P x) → (xs : List ℕ) → Each P (filter p xs)
each_kept p P h [] = tt
each_kept p P h (x ∷ xs) = each_step p P x xs (p x) refl (h x) (each_kept p P h xs)

pub each_colour : (mask : ℕ) → Each (λ k. IsBitSet mask k) (colours_of mask)
unfolding colours_of
each_colour mask = each_kept (λ k. bit_at mask k == 1) (λ k. IsBitSet mask k) (λ x e. bit_is_set mask x (eqb-true (bit_at mask x) 1 e)) (range_with_len 0 16)

-- a picture fills facts exactly where it fills one of the branches of a cell
pub split_fills : (clues : Clues) (facts : Masks) (picture : Rows) (row col : ℕ) → IsFacts facts → row < length facts → col < width_of facts
    → Fills clues facts picture ↔ FillsSome clues (branches facts row col (cell_at facts row col)) picture
split_fills clues facts picture row col is h l =
    let l' : col < length (row_at facts row) = omega arith in (
      (λ f.
          some_held clues facts picture row col h l' f (colours_of (cell_at facts row col))
          (among_colours (cell_at facts row col) (cell_at picture row col) (is.masks row col) (f.leaves row col (omega arith)))),
      (λ s. held_some clues facts picture row col h l' (colours_of (cell_at facts row col)) (each_colour (cell_at facts row col)) s),
    )

-- ---- the search

-- facts of the same shape as the first
abbrev pub AreAlike : Masks → List (List (List ℕ)) → Type 0
AreAlike first [] = Unit {0}
AreAlike first (facts ∷ others) = SameShape first facts × AreAlike first others

pub held_alike : (first facts : Masks) (row col : ℕ) → SameShape first facts → (ks : List ℕ) → AreAlike first (held facts row col ks)
held_alike first facts row col s [] = tt
held_alike first facts row col s (k ∷ ks) = (shape_trans s (shape_with_cell facts row col (2 ^ k)), held_alike first facts row col s ks)

pub alike_both : (first facts : Masks) (xs ys : List (List (List ℕ))) → SameShape first facts → AreAlike facts xs → AreAlike first ys → AreAlike first (xs ++ ys)
alike_both first facts [] ys s a b = b
alike_both first facts (x ∷ xs) ys s a b = (shape_trans s a.0, alike_both first facts xs ys s a.1 b)

pub some_front : (clues : Clues) (xs ys : List (List (List ℕ))) (picture : Rows) → FillsSome clues xs picture → FillsSome clues (xs ++ ys) picture
some_front clues [] ys picture f = absurd f
some_front clues (x ∷ xs) ys picture f = elim f [ inl here ↦ inl here | inr there ↦ inr (some_front clues xs ys picture there) ]

pub some_behind : (clues : Clues) (xs ys : List (List (List ℕ))) (picture : Rows) → FillsSome clues ys picture → FillsSome clues (xs ++ ys) picture
some_behind clues [] ys picture f = f
some_behind clues (x ∷ xs) ys picture f = inr (some_behind clues xs ys picture f)

pub some_both : (clues : Clues) (xs ys : List (List (List ℕ))) (picture : Rows) → FillsSome clues (xs ++ ys) picture → FillsSome clues xs picture ⊎ FillsSome clues ys picture
some_both clues [] ys picture f = inr f
some_both clues (x ∷ xs) ys picture f = elim f [
  | inl here ↦ inl (inl here)
  | inr there ↦ elim (some_both clues xs ys picture there) [ inl a ↦ inl (inr a) | inr b ↦ inr b ]
]

-- ---- the calls

-- a cell that lies outside of two grids of one shape
both_outside : (a b : List (List ℕ)) (r c : ℕ) → SameShape a b → length (row_at a r) ≤ c → cell_at a r c ≡ cell_at b r c
both_outside a b r c s p = let each = s.each r in get_or_past (row_at a r) c 0 p ∙ sym (get_or_past (row_at b r) c 0 (omega arith))

fills_solves : (clues : Clues) (givens : List ℕ) (picture : Rows) (facts : Masks) (other : Rows) → AreSound clues givens picture facts → Fills clues facts other
    → Solves clues (HasCell givens) picture other
fills_solves clues givens picture facts other s f =
    let shape : SameShape other picture = shape_trans f.same_shape (shape_sym s.same_shape) in
    record {
      is_picture = f.is_picture;
      rows = shape.rows;
      columns = shape.each;
      has_clues = f.has_clues;
      keeps_givens = λ r c g. elim (cases_lt c (length (row_at other r))) [
        | inl l ↦ s.hold_givens r c (cell_at other r c) g (f.leaves r c l)
        | inr p ↦ both_outside other picture r c shape p
      ];
    }

solves_fills : (clues : Clues) (givens : List ℕ) (picture : Rows) (facts : Masks) (other : Rows) → AreSound clues givens picture facts → Solves clues (HasCell givens) picture other
    → Fills clues facts other
solves_fills clues givens picture facts other s h = record {
  is_picture = h.is_picture;
  same_shape = shape_trans (solved_shape h) s.same_shape;
  has_clues = h.has_clues;
  leaves = s.leave other h;
}

pub finds_other : (clues : Clues) (givens : List ℕ) (picture : Rows) (facts first : Masks) (found : Option Rows) → AreSound clues givens picture facts → first ≡ facts
    → FindsFilling clues first picture found → FindsOther clues givens picture found
finds_other clues givens picture facts first None s e h = λ other o.
    h other (subst (λ (x : List (List ℕ)). Fills clues x other) (sym e) (solves_fills clues givens picture facts other s o.solves)) o.differs
finds_other clues givens picture facts first (Some other) s e h =
    record { solves = fills_solves clues givens picture facts other s (subst (λ (x : List (List ℕ)). Fills clues x other) e h.0); differs = h.1 }

pub can_close : (clues : Clues) (picture : Rows) (facts first : Masks) (longest : ℕ) → ((axis : Axis) → length (clues_along axis (clues_of picture)) ≡ lines_along axis picture)
    → clues_of picture ≡ clues → SameShape picture facts → first ≡ facts → length clues.rows ≤ longest → length clues.columns ≤ longest → AreClosable clues longest first
can_close clues picture facts first longest sizes e s same tall wide =
    let rows : length clues.rows ≡ length picture = ap (λ (c : Clues). length c.rows) (sym e) ∙ sizes Across in
    let columns : length clues.columns ≡ width_of picture = ap (λ (c : Clues). length c.columns) (sym e) ∙ sizes Down in
    rw same (record { rows = omega arith; columns = omega arith; wide = omega arith; tall = omega arith })

-- a picture with the clues fills facts of the clues' size that exclude nothing
all_fills : (clues : Clues) (picture : Rows) (facts : Masks) (height width : ℕ) → ((axis : Axis) → length (clues_along axis (clues_of picture)) ≡ lines_along axis picture) → HasClues clues picture
    → height ≡ length clues.rows → width ≡ length clues.columns → SameShape (replicate height (replicate {A = ℕ} width 65535)) facts
    → ((row col k : ℕ) → row < height → col < width → k < 16 → Leaves facts row col k) → Fills clues facts picture
all_fills clues picture facts height width sizes h tall wide shape left =
    let rows : length clues.rows ≡ length picture = ap (λ (c : Clues). length c.rows) (sym h.has_clues) ∙ sizes Across in
    let columns : length clues.columns ≡ width_of picture = ap (λ (c : Clues). length c.columns) (sym h.has_clues) ∙ sizes Down in
    record {
      is_picture = h.is_picture;
      same_shape = shape_trans (blank_like picture height width h.is_picture (omega arith) (omega arith)) shape;
      has_clues = h.has_clues;
      leaves = λ row col l.
          let m = row_there picture row col l in
          let rect = h.is_picture.rectangular row m in
          left row col (cell_at picture row col) (omega arith) (omega arith) (h.is_picture.colours row col);
    }
  where
    blank_like : (p : List (List ℕ)) (h w : ℕ) → IsPicture p → h ≡ length p → w ≡ width_of p → SameShape p (replicate h (replicate {A = ℕ} w 65535))
    blank_like p h w is th wd = record {
      rows = sym (length-replicate h (replicate {A = ℕ} w 65535) ∙ th);
      each = λ i. elim (cases_lt i h) [
        | inl l ↦ sym (ap length (get_or-replicate h i (replicate {A = ℕ} w 65535) [] l) ∙ (length-replicate {A = ℕ} w 65535 ∙ (wd ∙ sym (is.rectangular i (omega arith)))))
        | inr q ↦ ap length (get_or_past p i [] (omega arith))
            ∙ ap length (sym (get_or_past (replicate h (replicate {A = ℕ} w 65535)) i [] (omega (arith, length-replicate h (replicate {A = ℕ} w 65535)))))
      ];
    }

pub finds_first : (clues : Clues) (facts blank : Masks) (height width : ℕ) (found : Option Rows) → ((picture : Rows) (axis : Axis)
    → length (clues_along axis (clues_of picture)) ≡ lines_along axis picture) → height ≡ length clues.rows → width ≡ length clues.columns → facts ≡ replicate height (replicate {A = ℕ} width 65535)
    → ((row col k : ℕ) → row < height → col < width → k < 16 → Leaves facts row col k) → (clues_of blank ≡ clues → ⊥) → FindsFilling clues facts blank found → FindsFirst clues found
finds_first clues facts blank height width None sizes tall wide e left n h = λ picture has.
    h picture (all_fills clues picture facts height width (sizes picture) has tall wide (rw e (shape_refl _)) left) (λ same. n (subst (λ (x : List (List ℕ)). clues_of x ≡ clues) same has.has_clues))
finds_first clues facts blank height width (Some picture) sizes tall wide e left n h = record { is_picture = h.0.is_picture; has_clues = h.0.has_clues }

-- ---- sound facts

-- a cell of a row of a picture lies in the picture
row_inside : (picture : Rows) (row col : ℕ) → IsPicture picture → col < length (row_at picture row) → (row < length picture) × (col < width_of picture)
row_inside picture row col is l =
    let h = row_there picture row col l in
    (h, (let r = is.rectangular row h in omega arith))

-- a cell where a colour is left lies in the facts
pub left_there : (facts : Masks) (row col k : ℕ) → Leaves facts row col k → (row < length facts) × (col < length (row_at facts row))
left_there facts row col k s = elim (cases_lt col (length (row_at facts row))) [
  | inl l ↦ (row_there facts row col l, l)
  | inr p ↦ absurd (no_bit k (let P : ℕ → Type 0 = λ m. IsBitSet m k in subst P (get_or_past (row_at facts row) col 0 p) s))
]

none_sound : (clues : Clues) (givens : List ℕ) (picture : Rows) → IsPicture picture → ((row col : ℕ) → HasCell givens row col → ⊥)
    → AreSound clues givens picture (nothing_excluded (length picture) (width_of picture))
none_sound clues givens picture is n = record {
  same_shape = full_shape picture is;
  hold_givens = λ row col k g s. absurd (n row col g);
  leave = λ other h row col l.
      let i = row_inside other row col h.is_picture l in
      all_left (length picture) (width_of picture) row col (cell_at other row col) (omega arith) (omega arith) (h.is_picture.colours row col);
}

base_sound : (clues : Clues) (givens : List ℕ) (picture : Rows) (base : Masks) → IsPicture picture → IsBase givens picture base → AreSound clues givens picture base
base_sound clues givens picture base is b = record {
  same_shape = b.same_shape;
  hold_givens = λ row col k g s.
      let l = (left_there base row col k s).1 in
      let i = row_inside picture row col is (omega arith) in
      ((b.left row col k i.0 i.1).0 s).1 g;
  leave = λ other h row col l.
      let i = row_inside other row col h.is_picture l in
      (b.left row col (cell_at other row col) (omega arith) (omega arith)).1 (h.is_picture.colours row col, h.keeps_givens row col);
}

more_sound : (clues : Clues) (givens more : List ℕ) (picture : Rows) (facts : Masks) (row col : ℕ) → IsPicture picture → row < length picture → col < width_of picture → PutsCell givens more row col
    → AreSound clues givens picture facts → AreSound clues more picture (with_given picture facts row col)
more_sound clues givens more picture facts row col is h l p s =
    let colour = cell_at picture row col in
    let rect = is.rectangular row h in
    record {
      same_shape = shape_trans s.same_shape (shape_with_cell facts row col (2 ^ colour));
      hold_givens = λ r c k g. set_each facts row col (2 ^ colour) (omega arith) (omega arith) (λ r c m. HasCell more r c → IsBitSet m k → k ≡ cell_at picture r c)
          (λ g. (power_has colour k).0)
          (λ r c d g. s.hold_givens r c k (elim ((p r c).0 g) [ inl old ↦ old | inr e ↦ absurd (d e) ])) r c g;
      leave = λ other o. set_each facts row col (2 ^ colour) (omega arith) (omega arith) (λ r c m. c < length (row_at other r) → IsBitSet m (cell_at other r c))
          (λ i. (power_has colour (cell_at other row col)).1 (o.keeps_givens row col ((p row col).1 (inr (refl, refl)))))
          (λ r c d. s.leave other (solves_fewer clues (HasCell more) (HasCell givens) picture other (λ r c g. (p r c).1 (inl g)) o) r c);
    }

settled_sound : ClosingKeepsFillings → (clues : Clues) (givens : List ℕ) (picture : Rows) (facts settled : Masks) → IsLeast clues facts settled → AreSound clues givens picture facts
    → AreSound clues givens picture settled
settled_sound closing clues givens picture facts settled t s = record {
  same_shape = shape_trans s.same_shape t.holds.same_shape;
  hold_givens = λ row col k g x. s.hold_givens row col k g (t.holds.leaves row col k x);
  leave = λ other h.
      let fills : Fills clues facts other = record { is_picture = h.is_picture; same_shape = shape_trans (solved_shape h) s.same_shape; has_clues = h.has_clues; leaves = s.leave other h } in
      ((closing.least clues facts settled other t).0 fills).leaves;
}

pub all_sound : ClosingKeepsFillings → SoundFacts
all_sound closing = record { none = none_sound; base = base_sound; one_more = more_sound; settled = settled_sound closing }

-- The colours of a document numbered by first appearance: each number can be got back.
use Rattle.std.proofs.Common.{◌≡◌, ℕ, zero, suc, ◌<◌, ◌==◌, ◌⊎◌, Bool, true, false, List, [], ◌∷◌, ◌++◌, length, map, get_or, slice_index, slice_index_or, Option, Some, unwrap_or, refl, sym, ap}
use Rattle.std.proofs.Common.{subst, ◌∙◌, arith, inl, inr, eqb-true, eq-eqb, ne_eqb}
use Rattle.std.specs.List.{list_any, AllByRecursion, IsDistinct}
use Rattle.std.proofs.lemmas.Bool.{cases_Bool, eqb-false}
use Rattle.std.proofs.lemmas.Map.Keys.{IsDistinct-head, IsDistinct-tail}
use Rattle.picture.specs.declared.rgb.Rgb.{Rgb}
use Rattle.picture.specs.Palette.{place_of, rgb_eq, triple_at}
use Rattle.picture.specs.Document.{first_of, number_among, renumbered_rows, rows_shown, seen_after, triples_of}
use Rattle.picture.specs.Rows.{cell_at, Rows}
use Rattle.live_audit.proofs.RenumberLemmas.{cell_moved, moved}

same : (t : Rgb) → rgb_eq t t ≡ true
same t = rw (eq-eqb t.r t.r refl, eq-eqb t.g t.g refl, eq-eqb t.b t.b refl) refl

turn : (x y : ℕ) (s : Bool) → (x == y) ≡ s → (y == x) ≡ s
turn x y true e = eq-eqb y x (sym (eqb-true x y e))
turn x y false e = ne_eqb y x (λ h. eqb-false x y e (sym h))

turned_rgb : (a b : Rgb) → rgb_eq b a ≡ rgb_eq a b
turned_rgb a b = rw (turn a.r b.r (a.r == b.r) refl, turn a.g b.g (a.g == b.g) refl, turn a.b b.b (a.b == b.b) refl) refl

none_at : (t d : Rgb) (triples : List Rgb) (k : ℕ) → k < length triples → AllByRecursion (λ y. rgb_eq t y ≡ false) triples → rgb_eq t (get_or triples k d) ≡ false
none_at t d [] k l h = absurd (omega (arith, l))
none_at t d (x ∷ triples) zero l h = h.0
none_at t d (x ∷ triples) (suc k) l h = none_at t d triples k (omega (arith, l)) h.1

place_back : (d : Rgb) (triples : List Rgb) (k : ℕ) → k < length triples → IsDistinct rgb_eq triples → place_of (get_or triples k d) triples ≡ Some k
place_back d [] k l distinct = absurd (omega (arith, l))
place_back d (x ∷ triples) zero l distinct = rw (same x) refl
place_back d (x ∷ triples) (suc k) l distinct =
    let apart = none_at x d triples k (omega (arith, l)) (IsDistinct-head rgb_eq x triples distinct) in
    let other : rgb_eq (get_or triples k d) x ≡ false = turned_rgb x (get_or triples k d) ∙ apart in
    let later = place_back d triples k (omega (arith, l)) (IsDistinct-tail rgb_eq x triples distinct) in
    rw (other, later) (ap Some (omega arith))

-- a number of a palette is got back from its colour
pub number_back : (triples : List Rgb) (k : ℕ) → k < length triples → IsDistinct rgb_eq triples → number_among triples (triple_at triples k) ≡ k
number_back triples k l distinct = ap (λ (place : Option ℕ). unwrap_or place 0) (place_back (first_of triples) triples k l distinct)

-- ---- the background is the first colour of both

seen_head : (t : Rgb) (known cells : List Rgb) → (more : List Rgb) × (seen_after (t ∷ known) cells ≡ t ∷ more)
seen_head t known [] = (known, refl)
seen_head t known (x ∷ cells) = elim (cases_Bool (list_any (rgb_eq x) (t ∷ known))) [
  | inl e ↦ rw e (seen_head t known cells)
  | inr e ↦ rw e (seen_head t (known ++ x ∷ []) cells)
]

first_number : (t : Rgb) (triples more : List Rgb) → triples ≡ t ∷ more → number_among triples t ≡ 0
first_number t triples more e = ap (λ (ts : List Rgb). number_among ts t) e ∙ rw (same t) refl

head_of : (triples : List Rgb) → 0 < length triples → (more : List Rgb) × (triples ≡ first_of triples ∷ more)
head_of [] l = absurd (omega (arith, l))
head_of (t ∷ triples) l = (triples, refl)

at_first : (t : Rgb) (triples more : List Rgb) → triples ≡ t ∷ more → triple_at triples 0 ≡ t
at_first t triples more e = ap (λ (ts : List Rgb). triple_at ts 0) e

-- the background keeps its number, there and back
pub background_there : (triples cells : List Rgb) → 0 < length triples → number_among (seen_after (first_of triples ∷ []) cells) (triple_at triples 0) ≡ 0
background_there triples cells l =
    let head = head_of triples l in
    let seen = seen_head (first_of triples) [] cells in
    ap (number_among (seen_after (first_of triples ∷ []) cells)) (at_first (first_of triples) triples head.0 head.1) ∙ first_number (first_of triples) _ seen.0 seen.1

pub background_back : (triples cells : List Rgb) → 0 < length triples → number_among triples (triple_at (seen_after (first_of triples ∷ []) cells) 0) ≡ 0
background_back triples cells l =
    let head = head_of triples l in
    let seen = seen_head (first_of triples) [] cells in
    ap (number_among triples) (at_first (first_of triples) (seen_after (first_of triples ∷ []) cells) seen.0 seen.1) ∙ first_number (first_of triples) triples head.0 head.1

-- ---- each cell shows its colour

pub rows_moved : (among triples : List Rgb) (rows : Rows) → renumbered_rows among triples rows ≡ moved (λ k. number_among among (triple_at triples k)) rows
rows_moved among triples [] = refl
rows_moved among triples (row ∷ rows) =
    ap (λ (x : List ℕ). x ∷ renumbered_rows among triples rows) (row_moved row)
    ∙ ap (λ (xs : List (List ℕ)). map (λ k. number_among among (triple_at triples k)) row ∷ xs) (rows_moved among triples rows)
  where
    row_moved : (row : List ℕ) → map (number_among among) (triples_of triples row) ≡ map (λ k. number_among among (triple_at triples k)) row
    row_moved [] = refl
    row_moved (x ∷ row) = ap (λ (xs : List ℕ). number_among among (triple_at triples x) ∷ xs) (row_moved row)

shown_place : (among triples : List Rgb) (one other : List ℕ) → triples_of among one ≡ triples_of triples other → (j : ℕ) → j < length other
    → triple_at among (slice_index one j) ≡ triple_at triples (slice_index other j)
shown_place among triples [] [] e j l = absurd (omega (arith, l))
shown_place among triples [] (y ∷ other) e j l = absurd cc
shown_place among triples (x ∷ one) [] e j l = absurd cc
shown_place among triples (x ∷ one) (y ∷ other) e zero l = cc
shown_place among triples (x ∷ one) (y ∷ other) e (suc j) l = shown_place among triples one other (cc) j (omega (arith, l))

pub shown_cell : (among triples : List Rgb) (one : List (List ℕ)) (other : Rows) → rows_shown among one ≡ rows_shown triples other → (i j : ℕ) → i < length other
    → j < length (slice_index_or other i []) → triple_at among (cell_at one i j) ≡ triple_at triples (cell_at other i j)
shown_cell among triples [] [] e i j l k = absurd (omega (arith, l))
shown_cell among triples [] (y ∷ other) e i j l k = absurd cc
shown_cell among triples (x ∷ one) [] e i j l k = absurd cc
shown_cell among triples (x ∷ one) (y ∷ other) e zero j l k = shown_place among triples x y (cc) j k
shown_cell among triples (x ∷ one) (y ∷ other) e (suc i) j l k = shown_cell among triples one other (cc) i j (omega (arith, l)) k

-- ---- a document and its ordered form

cell_or_none : (rows : Rows) (i j : ℕ) → ((i < length rows) × (j < length (slice_index_or rows i []))) ⊎ (cell_at rows i j ≡ 0)
cell_or_none [] i j = inr refl
cell_or_none (row ∷ rows) zero j = place_or_none row j
  where
    place_or_none : (row : List ℕ) (j : ℕ) → ((0 < suc (length rows)) × (j < length row)) ⊎ (slice_index row j ≡ 0)
    place_or_none [] j = inr refl
    place_or_none (x ∷ row) zero = inl (omega arith, omega arith)
    place_or_none (x ∷ row) (suc j) = elim (place_or_none row j) [ inl h ↦ inl (omega arith, omega (arith, h.1)) | inr n ↦ inr n ]
cell_or_none (row ∷ rows) (suc i) j = elim (cell_or_none rows i j) [ inl h ↦ inl (omega (arith, h.0), h.1) | inr n ↦ inr n ]

abbrev pub there_of : List Rgb → List Rgb → ℕ → ℕ
there_of among triples k = number_among among (triple_at triples k)

-- each cell's number is got back from the one that its colour has among other colours, if it shows the same colour
pub cells_back : (among triples : List Rgb) (rows : Rows) → there_of among triples 0 ≡ 0 → there_of triples among 0 ≡ 0 → IsDistinct rgb_eq triples → ((i j : ℕ) → cell_at rows i j < length triples)
    → rows_shown among (renumbered_rows among triples rows) ≡ rows_shown triples rows → (i j : ℕ) → there_of triples among (there_of among triples (cell_at rows i j)) ≡ cell_at rows i j
cells_back among triples rows t b distinct coloured shown i j = elim (cell_or_none rows i j) [
  | inl h ↦
      let are : rows_shown among (moved (there_of among triples) rows) ≡ rows_shown triples rows =
      subst (λ (r : List (List ℕ)). rows_shown among r ≡ rows_shown triples rows) (rows_moved among triples rows) shown in
      let here = shown_cell among triples (moved (there_of among triples) rows) rows are i j h.0 h.1 in
      ap (λ k. number_among triples (triple_at among k)) (sym (cell_moved (there_of among triples) t rows i j))
      ∙ (ap (number_among triples) here ∙ number_back triples (cell_at rows i j) (coloured i j) distinct)
  | inr n ↦ ap (λ k. there_of triples among (there_of among triples k)) n ∙ (ap (there_of triples among) t ∙ (b ∙ sym n))
]

-- Facts have a cost: closing them has an outcome, and the load of what waits then is less; and where a search is broken off.
use Rattle.std.proofs.Common.{◌≡◌, ℕ, zero, suc, ◌^◌, ◌<◌, ◌⊎◌, ◌==◌, true, Option, None, Some, List, [], ◌∷◌, ◌++◌, length, get_or, map, refl, sym, ap, subst, ◌∙◌, arith, inl, inr, eqb-true, ◌≤◌}
use Rattle.std.specs.Prelude.{IsBitSet, slice_index}
use Rattle.std.specs.List.{All, filter, range_with_len}
use Rattle.std.specs.Int.{bit_at, trailing_zeros, w16}
use Rattle.std.proofs.lemmas.Bool.{cases_eq, cases_lt}
use Rattle.std.proofs.lemmas.List.{get_or_past, get_or-map, length-map}
use Rattle.std.proofs.lemmas.List.Elements.{filter_passes}
use Rattle.std.proofs.Math.Pow.{pow_pos, pow_mono}
use Rattle.picture.specs.Rows.{width_of, row_at, cell_at, Rows}
use Rattle.picture.proofs.BitLaws.{bit_below, bit_is_set, fewer_le, power_has, bit_or_not}
use Rattle.clues.specs.ClueBook.{Clues}
use Rattle.line_facts.specs.Branches.{branches, colours_of, held}
use Rattle.line_facts.specs.FactSets.{IsFacts, SameShape}
use Rattle.line_facts.proofs.MaskLaws.{lowest_of_power, only_is_power}
use Rattle.line_facts.specs.Masks.{IsOnly, Masks}
use Rattle.trail.specs.declared.cell.Cell.{Cell}
use Rattle.second_search.specs.declared.coming.Coming.{Coming}
use Rattle.second_search.specs.declared.coming.Coming.TheVariants.{Dies, Ends, Splits}
use Rattle.second_search.specs.SettledFacts.{IsFirstUnsettled, Shows}
use Rattle.second_search.specs.FixedOrder.{Comes, HasCost, Searches, SettlesTo, none_waits, is_dead, is_known, is_other, is_split, CostsAreUnique, EndsAs, SplitsPast, alone, once_more, past_dead}
use Rattle.second_search.specs.FixedOrder.{past_known, past_split}
use Rattle.second_search.proofs.LeastLemmas.{facts_like, facts_lower, fits_or_dead, least_is_there}
use Rattle.second_search.proofs.PickLemmas.{find_below, first_below, outside_is_0, same_list, IsRectangle, off_part, on_cells, shape_of_picked, Below, OrNot, some_below}
use Rattle.second_search.proofs.TreeLemmas.{ended_lighter, split_lighter, within_lighter}
use Rattle.second_search.proofs.WeightLemmas.{load}
use Rattle.picture.specs.Picture.{IsPicture}
use Rattle.line_facts.proofs.GridLaws.{shape_sym, shape_trans}
use Rattle.fixpoint.specs.Fillings.{only}
use Rattle.fixpoint.specs.Laws.{OnlyIsClosed}
use Rattle.second_search.specs.declared.counting.Ending.TheVariants as ending
use Rattle.second_search.specs.declared.keeper.Answer.{Answer}
use Rattle.second_search.specs.declared.keeper.Answer.TheVariants.{Filling, Nothing, Unknown}
use Rattle.second_search.specs.declared.keeper.KeptPart.{KeptPart}
use Rattle.second_search.specs.Costs.{CostsAreThere, CostsDecide, IsDear}
use Rattle.second_search.specs.JudgedParts.{EndsBy, Passes, answer_at, cells_at}
use Rattle.second_search.specs.Parts.{IsScene, board}
use Rattle.second_search.proofs.AloneLemmas.{own_power}
use Rattle.second_search.proofs.KnownLaws.{costs_are_unique, only_is_closed}
use Rattle.trail.specs.Trail.{place}

-- ---- settled cells

settled_or_not : (mask : ℕ) → mask < 2 ^ 16 → ((k : ℕ) × IsOnly mask k) ⊎ ((k : ℕ) → IsOnly mask k → ⊥)
settled_or_not mask small = elim (find_below (λ k. mask ≡ 2 ^ k) (λ k. cases_eq mask (2 ^ k)) 16) [
  | inl found ↦ inl (found.0, (let P : ℕ → Type 0 = λ m. IsOnly m found.0 in subst P (sym found.1.1) (power_has found.0)))
  | inr none ↦ inr (λ k o. none k (bit_below mask 16 k small ((o k).1 refl)) (only_is_power mask k o))
]

abbrev IsUnsettledAt : Masks → ℕ → ℕ → Type 0
IsUnsettledAt facts row col = (k : ℕ) → IsOnly (cell_at facts row col) k → ⊥

unsettled_or_not : (facts : Masks) (row col : ℕ) → IsFacts facts → IsUnsettledAt facts row col ⊎ (IsUnsettledAt facts row col → ⊥)
unsettled_or_not facts row col is = elim (settled_or_not (cell_at facts row col) (is.masks row col)) [
  | inl s ↦ inr (λ n. n s.0 s.1)
  | inr n ↦ inl n
]

abbrev HasUnsettled : Masks → ℕ → Type 0
HasUnsettled facts row = Below (IsUnsettledAt facts row) (width_of facts)

row_or_not : (facts : Masks) (row : ℕ) → IsFacts facts → OrNot (HasUnsettled facts row)
row_or_not facts row is = some_below (IsUnsettledAt facts row) (λ col. unsettled_or_not facts row col is) (width_of facts)

first_unsettled : (facts : Masks) (row col : ℕ) → IsFacts facts → row < length facts → col < width_of facts → IsUnsettledAt facts row col
    → ((r : ℕ) → r < row → HasUnsettled facts r → ⊥) → ((c : ℕ) → c < col → IsUnsettledAt facts row c → ⊥) → IsFirstUnsettled facts (place row col)
first_unsettled facts row col is h w un above left = record {
  is = record { in_rows = h; in_columns = w; unsettled = un };
  before = λ r c l b. elim (settled_or_not (cell_at facts r c) (is.masks r c)) [
    | inl s ↦ s
    | inr n ↦ absurd (elim b [
      | inl lt ↦ above r lt (c, (l, n))
      | inr e ↦ let P : ℕ → Type 0 = λ i. IsUnsettledAt facts i c in left c e.1 (subst P e.0 n)
    ])
  ];
}

-- the first cell that is not settled, or all are
unsettled_or_all : (facts : Masks) → IsFacts facts
    → ((cell : Cell) × IsFirstUnsettled facts cell) ⊎ ((row col : ℕ) → row < length facts → col < width_of facts → (k : ℕ) × IsOnly (cell_at facts row col) k)
unsettled_or_all facts is = elim (first_below (HasUnsettled facts) (λ row. row_or_not facts row is) (length facts)) [
  | inr none ↦ inr (λ row col h w. elim (settled_or_not (cell_at facts row col) (is.masks row col)) [
    | inl s ↦ s
    | inr n ↦ absurd (none row h (col, (w, n)))
  ])
  | inl found ↦
      let row = found.0 in
      elim (first_below (IsUnsettledAt facts row) (λ col. unsettled_or_not facts row col is) (width_of facts)) [
        | inl at ↦ inl (place row at.0, first_unsettled facts row at.0 is found.1.0 at.1.0 at.1.1.0 found.1.1.1 at.1.1.1)
        | inr none ↦ let some = found.1.1.0 in absurd (none some.0 some.1.0 some.1.1)
      ]
]

-- ---- the picture of settled facts

abbrev colours_in : List ℕ → List ℕ
colours_in = map (trailing_zeros w16)

abbrev shown : Masks → List (List ℕ)
shown facts = map colours_in facts

shown_shape : (facts : Masks) → SameShape (shown facts) facts
shown_shape facts = record {
  rows = length-map facts colours_in;
  each = λ i. elim (cases_lt i (length facts)) [
    | inl l ↦ ap length (get_or-map colours_in facts i [] [] l) ∙ length-map (row_at facts i) (trailing_zeros w16)
    | inr p ↦ ap length (get_or_past (shown facts) i [] (let n = length-map facts colours_in in omega arith)) ∙ sym (ap length (get_or_past facts i [] p))
  ];
}

shown_at : (facts : Masks) (row col : ℕ) → row < length facts → col < length (row_at facts row) → cell_at (shown facts) row col ≡ trailing_zeros w16 (cell_at facts row col)
shown_at facts row col h w = ap (λ (x : List ℕ). get_or x col 0) (get_or-map colours_in facts row [] [] h) ∙ get_or-map (trailing_zeros w16) (row_at facts row) col 0 0 w

colour_is : (mask k : ℕ) → mask < 2 ^ 16 → IsOnly mask k → (k < 16) × (trailing_zeros w16 mask ≡ k)
colour_is mask k small o =
    let l = bit_below mask 16 k small ((o k).1 refl) in
    let e = only_is_power mask k o in
    (l, ap (trailing_zeros w16) e ∙ lowest_of_power k l (pow_pos k) (let s = small in omega arith))

shows : (facts : Masks) → IsFacts facts → ((row col : ℕ) → row < length facts → col < width_of facts → (k : ℕ) × IsOnly (cell_at facts row col) k) → Shows facts (shown facts)
shows facts is all =
    let shape = shown_shape facts in
    let only : (row col : ℕ) → row < length facts → col < width_of facts → IsOnly (cell_at facts row col) (cell_at (shown facts) row col) = λ row col h w.
    let k = all row col h w in
    let rect = is.rectangular row h in
    let e : cell_at (shown facts) row col ≡ k.0 = shown_at facts row col h (omega arith) ∙ (colour_is (cell_at facts row col) k.0 (is.masks row col) k.1).1 in
    subst (λ (x : ℕ). IsOnly (cell_at facts row col) x) (sym e) k.1
    in
    record {
      is_picture = record {
        has_row = (let a = is.has_row in omega arith);
        rows_fit = (let a = is.rows_fit in omega arith);
        has_column = (let a = is.has_column in omega arith);
        columns_fit = (let a = is.columns_fit in omega arith);
        rectangular = λ i m. (let a = is.rectangular i (omega arith) in let b = shape.each i in omega arith);
        colours = colours only;
      };
      same_shape = shape;
      only = only;
    }
  where
    colours : ((row col : ℕ) → row < length facts → col < width_of facts → IsOnly (cell_at facts row col) (cell_at (shown facts) row col)) → (i j : ℕ) → cell_at (shown facts) i j < 16
    colours only i j =
        let each = (shown_shape facts).each i in
        elim (cases_lt i (length facts)) [
          | inr p ↦ let e = ap length (get_or_past facts i [] p) in let z = outside_is_0 (shown facts) i j (omega arith) in omega arith
          | inl l ↦ elim (cases_lt j (width_of facts)) [
            | inr q ↦ let rect = is.rectangular i l in let z = outside_is_0 (shown facts) i j (omega arith) in omega arith
            | inl m ↦ (colour_is (cell_at facts i j) (cell_at (shown facts) i j) (is.masks i j) (only i j l m)).0
          ]
        ]

-- ---- the outcome of closing facts

abbrev ComesToSome : Clues → Masks → Type 0
ComesToSome clues facts = (coming : Coming) × Comes clues facts coming

settled_comes : (clues : Clues) (facts settled : Masks) → SettlesTo clues facts settled → ComesToSome clues facts
settled_comes clues facts settled to = elim (unsettled_or_all settled to.are_facts) [
  | inl at ↦ (Splits settled at.0, (to, at.1))
  | inr all ↦ (Ends (shown settled), (settled, (to, shows settled to.are_facts all)))
]

comes_to_some : (clues : Clues) (facts : Masks) → IsFacts facts → ComesToSome clues facts
comes_to_some clues facts is =
    let least = least_is_there clues facts is in
    elim (fits_or_dead clues facts least.0 least.1.0 least.1.1) [
      | inr dead ↦ (Dies, dead)
      | inl fits ↦ settled_comes clues facts least.0 (record { are_facts = least.1.0; least = least.1.1; fits = fits })
    ]

-- ---- what waits

abbrev AreFacts : List (List (List ℕ)) → Type 0
AreFacts [] = Unit {0}
AreFacts (facts ∷ others) = IsFacts facts × AreFacts others

facts_append : (xs ys : List (List (List ℕ))) → AreFacts xs → AreFacts ys → AreFacts (xs ++ ys)
facts_append [] ys a b = b
facts_append (x ∷ xs) ys a b = (a.0, facts_append xs ys a.1 b)

held_facts : (facts : Masks) (row col : ℕ) → IsFacts facts → row < length facts → col < width_of facts → (ks : List ℕ) → All (λ k. (bit_at (cell_at facts row col) k == 1) ≡ true) ks
    → AreFacts (held facts row col ks)
held_facts facts row col is h w [] a = tt
held_facts facts row col is h w (k ∷ ks) a =
    let s = bit_is_set (cell_at facts row col) k (eqb-true (bit_at (cell_at facts row col) k) 1 (a 0 0 (omega arith))) in
    let le = fewer_le (2 ^ k) (cell_at facts row col) (λ j t. let P : ℕ → Type 0 = λ i. IsBitSet (cell_at facts row col) i in subst P (sym ((power_has k j).0 t)) s) in
    (facts_lower facts row col (2 ^ k) is h w le, held_facts facts row col is h w ks (λ i d m. a (suc i) d (omega arith)))

branch_facts : (facts : Masks) (row col : ℕ) → IsFacts facts → row < length facts → col < width_of facts → AreFacts (branches facts row col (cell_at facts row col))
unfolding colours_of
branch_facts facts row col is h w =
    let mask = cell_at facts row col in
    held_facts facts row col is h w (filter (λ k. bit_at mask k == 1) (range_with_len 0 16)) (filter_passes (λ k. bit_at mask k == 1) (range_with_len 0 16))

-- ---- the search

abbrev Ended : Clues → Rows → List Masks → Type 0
Ended clues known waiting = (found : Option Rows) × ((n : ℕ) × Searches clues known waiting found n)

goes_on : (clues : Clues) (known : Rows) (facts : Masks) (others : List Masks) → ((waiting : List Masks) → load waiting < load (facts ∷ others) → AreFacts waiting → Ended clues known waiting)
    → AreFacts others
    → (coming : Coming) → Comes clues facts coming → Ended clues known (facts ∷ others)
goes_on clues known facts others on a Dies c =
    let r = on others (ended_lighter facts others) a in
    (r.0, (r.1.0, is_dead facts others r.0 r.1.0 c r.1.1))
goes_on clues known facts others on a (Ends picture) c = elim (same_list (same_list cases_eq) picture known) [
  | inr d ↦ (Some picture, (0, is_other facts others picture c d))
  | inl e ↦
      let r = on others (ended_lighter facts others) a in
      (r.0, (r.1.0, is_known facts others r.0 r.1.0 (subst (λ (x : List (List ℕ)). Comes clues facts (Ends x)) e c) r.1.1))
]
goes_on clues known facts others on a (Splits settled cell) c =
    let is = c.0.are_facts in
    let at = c.1.is in
    let front = branches settled cell.row cell.col (cell_at settled cell.row cell.col) in
    let less = split_lighter settled others cell is at in
    let most = within_lighter facts settled others c.0.least.holds in
    let r = on (front ++ others) (omega arith) (facts_append front others (branch_facts settled cell.row cell.col is at.in_rows at.in_columns) a) in
    (r.0, (suc r.1.0, is_split facts others settled cell r.0 r.1.0 c r.1.1))

search_ends : (n : ℕ) (clues : Clues) (known : Rows) (waiting : List Masks) → load waiting < n → AreFacts waiting → Ended clues known waiting
search_ends zero clues known waiting l a = absurd (omega arith)
search_ends (suc n) clues known [] l a = (None, (0, none_waits))
search_ends (suc n) clues known (facts ∷ others) l a =
    let c = comes_to_some clues facts a.0 in
    goes_on clues known facts others (λ waiting m b. search_ends n clues known waiting (omega arith) b) a.1 c.0 c.1

pub cost_is_there : (clues : Clues) (known : Rows) (facts : Masks) → IsFacts facts → (n : ℕ) × HasCost clues known facts n
cost_is_there clues known facts is =
    let ended = search_ends (suc (load (facts ∷ []))) clues known (facts ∷ []) (omega arith) (is, tt) in
    (ended.1.0, (ended.0, ended.1.1))

-- ---- the facts of a part

only_small : OnlyIsClosed → (picture : Rows) (i j : ℕ) → IsPicture picture → cell_at (only picture) i j < 2 ^ 16
only_small law picture i j is =
    let each = (law.same_shape picture).each i in
    elim (cases_lt j (length (row_at picture i))) [
      | inl l ↦
          let power = own_power law picture i j l in
          let most = pow_mono {i = cell_at picture i j} {j = 15} (omega arith) in
          omega arith
      | inr p ↦ let z = outside_is_0 (only picture) i j (omega arith) in omega arith
    ]

alone_small : OnlyIsClosed → (cells : List ℕ) (facts : Masks) (picture : Rows) (i j : ℕ) → IsPicture picture → IsFacts facts → IsRectangle (only picture) → SameShape facts (only picture)
    → cell_at (alone cells facts picture) i j < 2 ^ 16
alone_small law cells facts picture i j is_picture is rect same = elim (bit_or_not (slice_index cells i) j) [
  | inl has ↦ let e = on_cells cells facts (only picture) i j rect same has in let m = is.masks i j in omega arith
  | inr out ↦ let e = off_part cells facts (only picture) i j rect out in let m = only_small law picture i j is_picture in omega arith
]

pub alone_facts : OnlyIsClosed → (clues : Clues) (givens : List ℕ) (facts : Masks) (picture : Rows) (cells : List ℕ) → IsScene clues givens facts picture → IsFacts facts
    → IsFacts (alone cells facts picture)
alone_facts law clues givens facts picture cells scene is =
    let own = law.same_shape picture in
    let rect : IsRectangle (only picture) = λ i l. (let tall = own.rows in let wide = own.each 0 in let each = own.each i in let r = scene.is_picture.rectangular i (omega arith) in omega arith) in
    let shape = shape_of_picked cells facts (only picture) rect in
    let same = shape_trans (shape_sym scene.sound.same_shape) own in
    facts_like facts (alone cells facts picture) is (shape_trans same (shape_sym shape)) (λ i j. alone_small law cells facts picture i j scene.is_picture is rect same)

-- ---- what goes on past an allowance

goes_past : (clues : Clues) (known : Rows) (waiting : List Masks) (found : Option Rows) (n : ℕ) → Searches clues known waiting found n → (most : ℕ) → most < n → SplitsPast clues known waiting most
goes_past clues known _ _ _ none_waits most l = absurd (omega arith)
goes_past clues known _ _ _ (is_dead facts others found n c s) most l = past_dead facts others most c (goes_past clues known others found n s most l)
goes_past clues known _ _ _ (is_known facts others found n c s) most l = past_known facts others most c (goes_past clues known others found n s most l)
goes_past clues known _ _ _ (is_other facts others picture c d) most l = absurd (omega arith)
goes_past clues known _ _ _ (is_split facts others settled cell found n c s) zero l = once_more facts others settled cell c
goes_past clues known _ _ _ (is_split facts others settled cell found n c s) (suc most) l = past_split facts others settled cell most c (goes_past clues known _ found n s most (omega arith))

broken_off : CostsAreUnique → (clues : Clues) (known : Rows) (facts : Masks) (most cost : ℕ) → HasCost clues known facts cost → most < cost → EndsAs clues known facts (Some most) ending.BrokenOff most
broken_off unique clues known facts most cost h l = (refl, (goes_past clues known (facts ∷ []) h.0 cost h.1 most l, (λ other k. let e = unique clues known facts other cost k h in omega arith)))

-- ---- parts that are passed

cheap : CostsAreUnique → (clues : Clues) (known : Rows) (facts : Masks) (most cost n : ℕ) (found : Option Rows) → Searches clues known (facts ∷ []) found n → n ≤ most → HasCost clues known facts cost
    → most < cost → ⊥
cheap unique clues known facts most cost n found s le h l = let e = unique clues known facts cost n h (found, s) in absurd (omega arith)

part_is_cheap : CostsAreUnique → (clues : Clues) (facts : Masks) (picture : Rows) (most cost searched splits : ℕ) (cells : List ℕ) (answer : Answer) → answer ≡ Unknown
    → EndsBy (board clues facts picture) (Some most) cells answer ending.Nothing searched splits → HasCost clues picture (alone cells facts picture) cost → most < cost → ⊥
part_is_cheap unique clues facts picture most cost searched splits cells answer e ends h l =
    let known : EndsBy (board clues facts picture) (Some most) cells Unknown ending.Nothing searched splits =
    subst (λ (x : Answer). EndsBy (board clues facts picture) (Some most) cells x ending.Nothing searched splits) e ends in
    cheap unique clues picture (alone cells facts picture) most cost splits None known.1.0 known.1.1 h l

found_is_cheap : CostsAreUnique → (clues : Clues) (facts : Masks) (picture other : Rows) (most cost searched splits : ℕ) (cells : List ℕ) (answer : Answer) → answer ≡ Unknown
    → EndsBy (board clues facts picture) (Some most) cells answer (ending.Found other) searched splits → HasCost clues picture (alone cells facts picture) cost → most < cost → ⊥
found_is_cheap unique clues facts picture other most cost searched splits cells answer e ends h l =
    let known : EndsBy (board clues facts picture) (Some most) cells Unknown (ending.Found other) searched splits = rw e at ends in
    cheap unique clues picture (alone cells facts picture) most cost splits (Some other) known.1.0 known.1.1 h l

passed_are_cheap : CostsAreUnique → (clues : Clues) (facts : Masks) (picture : Rows) (most : ℕ) (kept : List KeptPart) (n searched splits : ℕ)
    → Passes (board clues facts picture) (Some most) kept n searched splits → (i : ℕ) → i < n → IsDear clues facts picture most kept i → ⊥
passed_are_cheap unique clues facts picture most kept zero searched splits p i l d = absurd (omega arith)
passed_are_cheap unique clues facts picture most kept (suc n) searched splits p i l d = elim (cases_eq i n) [
  | inr other ↦ passed_are_cheap unique clues facts picture most kept n p.0 p.1.0 p.1.1.1.1.0 i (omega arith) d
  | inl e ↦
      let here : IsDear clues facts picture most kept n = subst (λ (j : ℕ). IsDear clues facts picture most kept j) e d in
      part_is_cheap unique clues facts picture most here.1.0 p.1.1.0 p.1.1.1.0 (cells_at kept n) (answer_at kept n) here.0 p.1.1.1.1.1.0 here.1.1.0 here.1.1.1
]

-- ---- the part at which a search was broken off

stopped_is_dear : CostsAreUnique → (clues : Clues) (facts : Masks) (picture : Rows) (most searched splits : ℕ) (cells : List ℕ) (answer : Answer) → IsFacts (alone cells facts picture)
    → EndsBy (board clues facts picture) (Some most) cells answer ending.BrokenOff searched splits
    → (answer ≡ Unknown) × ((cost : ℕ) × (HasCost clues picture (alone cells facts picture) cost × (most < cost)))
stopped_is_dear unique clues facts picture most searched splits cells Unknown is ends =
    let cost = cost_is_there clues picture (alone cells facts picture) is in
    let n : most ≡ splits = (let e = ends.1.0 in cc) in
    let more = ends.1.1.1 cost.0 cost.1 in
    (refl, (cost.0, (cost.1, (omega arith))))
stopped_is_dear unique clues facts picture most searched splits cells Nothing is ends = let e = ends.0 in absurd cc
stopped_is_dear unique clues facts picture most searched splits cells (Filling other) is ends = let e = ends.0 in absurd cc

pub costs_are_there : CostsAreThere
costs_are_there = record {
  facts = cost_is_there;
  parts = λ clues givens facts picture cells scene is. cost_is_there clues picture (alone cells facts picture) (alone_facts only_is_closed clues givens facts picture cells scene is);
}

pub costs_decide : CostsDecide
costs_decide = record {
  facts = λ clues known facts most cost h. ((λ ends. ends.1.1 cost h), (λ l. broken_off costs_are_unique clues known facts most cost h l));
  undecided = λ clues givens facts picture most old new searched splits scene is b.
      let i = b.at in
      record {
        place = b.stops.place;
        is = stopped_is_dear costs_are_unique clues facts picture most b.stops.searched_here b.stops.splits_here (cells_at old i) (answer_at old i)
            (alone_facts only_is_closed clues givens facts picture (cells_at old i) scene is) b.stops.here;
        before = passed_are_cheap costs_are_unique clues facts picture most old i b.stops.searched_before b.stops.splits_before b.stops.before;
      };
  unique = λ clues facts picture most old new searched splits p. passed_are_cheap costs_are_unique clues facts picture most old (length old) searched splits p.passes;
  other = λ clues facts picture most old new searched splits f i l d. elim (cases_eq i f.at) [
    | inr before ↦ passed_are_cheap costs_are_unique clues facts picture most old f.at f.stops.searched_before f.stops.splits_before f.stops.before i (omega arith) d
    | inl e ↦
        let here : IsDear clues facts picture most old f.at = subst (λ (j : ℕ). IsDear clues facts picture most old j) e d in
        found_is_cheap costs_are_unique clues facts picture f.other most here.1.0 f.stops.searched_here f.stops.splits_here (cells_at old f.at)
        (answer_at old f.at) here.0 f.stops.here here.1.1.0 here.1.1.1
  ];
}

-- Facts have least closed facts over them: while some line forces an exclusion, one more colour is excluded.
use Rattle.std.proofs.Common.{◌≡◌, ℕ, zero, suc, ◌^◌, ◌<◌, ◌≤◌, ◌⊎◌, ◌↔◌, List, length, get_or, bit_and, refl, sym, subst, arith, inl, inr, [], ◌∷◌, ap, ◌∙◌}
use Rattle.std.specs.Prelude.{IsBitSet}
use Rattle.std.specs.Int.{bit_not, w16}
use Rattle.std.proofs.lemmas.Bool.{cases_eq, cases_lt}
use Rattle.std.proofs.lemmas.List.{get_or_past}
use Rattle.std.proofs.Math.Pow.{pow_mono}
use Rattle.line_facts.specs.Masks.{Masks}
use Rattle.picture.specs.declared.line_id.Axis.{Axis}
use Rattle.picture.specs.declared.line_id.Axis.TheVariants.{Across, Down}
use Rattle.picture.specs.declared.line_id.LineId.{LineId}
use Rattle.picture.specs.Rows.{width_of, row_at, cell_at, with_cell, line_of, lines_along, HasLine}
use Rattle.picture.proofs.BitLaws.{bit_below, bit_or_not, fewer_le, no_bit, power_has}
use Rattle.clues.specs.declared.block.Block.{Block}
use Rattle.clues.specs.ClueBook.{Clues, clue_at}
use Rattle.line_facts.specs.Fits.{CanFit, Forces, CanHave}
use Rattle.line_facts.specs.FactSets.{IsClosed, IsClosedLine, IsFacts, IsLeast, IsWithin, Leaves, SameShape, col_on, row_on}
use Rattle.line_facts.proofs.FitLaws.{tighter_can_fit, tighter_have, within_tighter}
use Rattle.line_facts.proofs.GridLaws.{cell_on, same_has_line, shape_sym, shape_trans, shape_with_cell}
use Rattle.line_facts.proofs.MaskLaws.{without_bit}
use Rattle.fixpoint.specs.ClosedFacts.{EachFits, HasDeadLine}
use Rattle.fixpoint.proofs.ClosingLaws.{within_refl, within_trans}
use Rattle.trail.proofs.GridLemmas.{both_or_not, set_each}
use Rattle.second_search.proofs.GrowLemmas.{line_named}
use Rattle.second_search.proofs.PickLemmas.{find_below, same_list, Below, OrNot, some_below}
use Rattle.second_search.proofs.WeightLemmas.{weight, weight_with_cell}
use Rattle.clues.specs.Clue.{block, clue_of}
use Rattle.line_facts.proofs.AlongLaws.{place_on}

-- ---- equal or not

same_block : (a b : Block) → (a ≡ b) ⊎ (a ≡ b → ⊥)
same_block a b = elim (cases_eq a.len b.len) [
  | inr d ↦ inr (λ e. d (ap (λ (x : Block). x.len) e))
  | inl e ↦ elim (cases_eq a.colour b.colour) [
    | inr d ↦ inr (λ e. d (ap (λ (x : Block). x.colour) e))
    | inl f ↦ inl (let p : block a.len a.colour ≡ block b.len a.colour = ap (λ n. block n a.colour) e in p ∙ ap (block b.len) f)
  ]
]

-- ---- the lists of colours that are left

record IsAmong (left line : List ℕ) : Type 0 where
  same_length : length line ≡ length left
  keeps : (i : ℕ) → i < length left → IsBitSet (get_or left i 0) (get_or line i 0)

abbrev pub AreSmall : List ℕ → Type 0
AreSmall left = (i : ℕ) → get_or left i 0 < 2 ^ 16

none_left : (line : List ℕ) → IsAmong [] line → line ≡ []
none_left [] a = refl
none_left (x ∷ xs) a = absurd (let e = a.same_length in omega arith)

one_more : (m k : ℕ) (ms line : List ℕ) → IsBitSet m k → IsAmong ms line → IsAmong (m ∷ ms) (k ∷ line)
one_more m k ms line s a = record { same_length = ap suc a.same_length; keeps = keeps }
  where
    keeps : (i : ℕ) → i < length (m ∷ ms) → IsBitSet (get_or (m ∷ ms) i 0) (get_or (k ∷ line) i 0)
    keeps zero l = s
    keeps (suc i) l = a.keeps i (omega arith)

rest_of : (m k : ℕ) (ms line : List ℕ) → IsAmong (m ∷ ms) (k ∷ line) → IsAmong ms line
rest_of m k ms line a = record { same_length = (let e = a.same_length in omega arith); keeps = λ i l. a.keeps (suc i) (omega arith) }

-- some such list has a property, or none has
some_list : (left : List ℕ) (P : List ℕ → Type 0) → ((line : List ℕ) → P line ⊎ (P line → ⊥)) → AreSmall left
    → ((line : List ℕ) × (IsAmong left line × P line)) ⊎ ((line : List ℕ) → IsAmong left line → P line → ⊥)
some_list [] P by small = elim (by []) [
  | inl p ↦ inl ([], (record { same_length = refl; keeps = λ i l. absurd (omega arith) }, p))
  | inr n ↦ inr (λ line a p. n (subst P (none_left line a) p))
]
some_list (m ∷ ms) P by small =
    let rest = λ (k : ℕ). some_list ms (λ line. P (k ∷ line)) (λ line. by (k ∷ line)) (λ i. small (suc i)) in
    let Q : ℕ → Type 0 = λ k. IsBitSet m k × ((line : List ℕ) × (IsAmong ms line × P (k ∷ line))) in
    let each : (k : ℕ) → Q k ⊎ (Q k → ⊥) = λ k. both_or_not (bit_or_not m k) (elim (rest k) [
      | inl found ↦ inl found
      | inr none ↦ inr (λ p. none p.0 p.1.0 p.1.1)
    ]) in
    elim (find_below Q each 16) [
      | inl found ↦ inl (found.0 ∷ found.1.1.1.0, (one_more m found.0 ms found.1.1.1.0 found.1.1.0 found.1.1.1.1.0, found.1.1.1.1.1))
      | inr none ↦ inr (λ line a p. no_list m ms P (small 0) none line a p)
    ]
  where
    no_list : (m : ℕ) (ms : List ℕ) (P : List ℕ → Type 0) → m < 2 ^ 16 → ((k : ℕ) → k < 16 → IsBitSet m k × ((line : List ℕ) × (IsAmong ms line × P (k ∷ line))) → ⊥) → (line : List ℕ)
        → IsAmong (m ∷ ms) line → P line → ⊥
    no_list m ms P l none [] a p = absurd (let e = a.same_length in omega arith)
    no_list m ms P l none (k ∷ line) a p =
        let s = a.keeps 0 (omega arith) in
        none k (bit_below m 16 k l s) (s, (line, (rest_of m k ms line a, p)))

-- ---- lists that fit

pub fit_or_not : (clue : List Block) (left : List ℕ) → AreSmall left → CanFit clue left ⊎ (CanFit clue left → ⊥)
fit_or_not clue left small = elim (some_list left (λ line. clue_of line ≡ clue) (λ line. same_list same_block (clue_of line) clue) small) [
  | inl found ↦ inl (found.0, record { same_length = found.1.0.same_length; has_clue = found.1.1; keeps = found.1.0.keeps })
  | inr none ↦ inr (λ fit. none fit.0 (record { same_length = fit.1.same_length; keeps = fit.1.keeps }) fit.1.has_clue)
]

pub have_or_not : (clue : List Block) (left : List ℕ) (i k : ℕ) → AreSmall left → CanHave clue left i k ⊎ (CanHave clue left i k → ⊥)
have_or_not clue left i k small = elim (cases_lt i (length left)) [
  | inr p ↦ inr (λ h. let w = h.within in absurd (omega arith))
  | inl l ↦ elim (some_list left (λ line. (clue_of line ≡ clue) × (get_or line i 0 ≡ k)) (λ line. both_or_not (same_list same_block (clue_of line) clue) (cases_eq (get_or line i 0) k)) small) [
    | inl found ↦ inl (record {
      line = found.0;
      fits = record { same_length = found.1.0.same_length; has_clue = found.1.1.0; keeps = found.1.0.keeps };
      within = l;
      has = found.1.1.1;
    })
    | inr none ↦ inr (λ h. none h.line (record { same_length = h.fits.same_length; keeps = h.fits.keeps }) (h.fits.has_clue, h.has))
  ]
]

small_line : (facts : Masks) (line : LineId) → IsFacts facts → AreSmall (line_of facts line)
small_line facts line is i =
    let e = cell_on facts line i in
    let m = is.masks (row_on line.axis line.at i) (col_on line.axis line.at i) in
    omega arith

-- ---- all lines

-- a line has a property, or none has
pub some_line : (facts : Masks) (P : LineId → Type 0) → ((line : LineId) → P line ⊎ (P line → ⊥))
    → ((line : LineId) × (HasLine facts line × P line)) ⊎ ((line : LineId) → HasLine facts line → P line → ⊥)
some_line facts P by = elim (along Across) [
  | inl found ↦ inl (line_named Across found.0, found.1)
  | inr no_row ↦ elim (along Down) [
    | inl found ↦ inl (line_named Down found.0, found.1)
    | inr no_column ↦ inr (λ line. none no_row no_column line.axis line.at)
  ]
]
  where
    along : (axis : Axis) → ((at : ℕ) × ((at < lines_along axis facts) × P (line_named axis at))) ⊎ ((at : ℕ) → at < lines_along axis facts → P (line_named axis at) → ⊥)
    along axis = find_below (λ at. P (line_named axis at)) (λ at. by (line_named axis at)) (lines_along axis facts)

    none : ((at : ℕ) → at < lines_along Across facts → P (line_named Across at) → ⊥) → ((at : ℕ) → at < lines_along Down facts → P (line_named Down at) → ⊥) → (axis : Axis) (at : ℕ)
        → at < lines_along axis facts → P (line_named axis at) → ⊥
    none r c Across at l p = r at l p
    none r c Down at l p = c at l p

-- ---- a line that forces something

-- a colour that is left on a line, and that no list which fits has there
record IsForced (clue : List Block) (left : List ℕ) (i k : ℕ) : Type 0 where
  is_left : IsBitSet (get_or left i 0) k
  forces : Forces clue left i k

abbrev ForcesSome : List Block → List ℕ → Type 0
ForcesSome clue left = Below (λ i. Below (IsForced clue left i) 16) (length left)

forced_or_not : (clue : List Block) (left : List ℕ) (i k : ℕ) → AreSmall left → IsForced clue left i k ⊎ (IsForced clue left i k → ⊥)
forced_or_not clue left i k small = elim (bit_or_not (get_or left i 0) k) [
  | inr n ↦ inr (λ f. n f.is_left)
  | inl s ↦ elim (have_or_not clue left i k small) [
    | inl h ↦ inr (λ f. f.forces h)
    | inr n ↦ inl (record { is_left = s; forces = n })
  ]
]

forces_or_not : (clue : List Block) (left : List ℕ) → AreSmall left → OrNot (ForcesSome clue left)
forces_or_not clue left small = some_below (λ i. Below (IsForced clue left i) 16)
    (λ i. some_below (IsForced clue left i) (λ k. forced_or_not clue left i k small) 16) (length left)

closed_line : (clue : List Block) (left : List ℕ) → AreSmall left → (ForcesSome clue left → ⊥) → IsClosedLine clue left
closed_line clue left small none i k s = elim (have_or_not clue left i k small) [
  | inl h ↦ h
  | inr n ↦ absurd (none (i, (inside, (k, (bit_below (get_or left i 0) 16 k (small i) s, record { is_left = s; forces = n })))))
]
  where
    inside : i < length left
    inside = elim (cases_lt i (length left)) [
      | inl l ↦ l
      | inr p ↦ absurd (no_bit k (let P : ℕ → Type 0 = λ m. IsBitSet m k in subst P (get_or_past left i 0 p) s))
    ]

-- ---- one colour fewer

abbrev less : ℕ → ℕ → ℕ
less mask k = bit_and mask (bit_not w16 (2 ^ k))

has_less : (mask k : ℕ) → mask < 2 ^ 16 → k < 16 → (j : ℕ) → IsBitSet (less mask k) j ↔ (IsBitSet mask j × (j ≡ k → ⊥))
has_less mask k m l j =
    let both = without_bit mask (2 ^ k) j m (let most = pow_mono {i = k} {j = 15} (omega arith) in omega arith) in (
      (λ s. let p = both.0 s in (p.0, (λ e. p.1 ((power_has k j).1 e)))),
      (λ p. both.1 (p.0, (λ s. p.1 ((power_has k j).0 s)))),
    )

less_is_less : (mask k : ℕ) → mask < 2 ^ 16 → k < 16 → IsBitSet mask k → less mask k < mask
less_is_less mask k m l s =
    let le = fewer_le (less mask k) mask (λ j t. ((has_less mask k m l j).0 t).0) in
    elim (cases_eq (less mask k) mask) [
      | inl e ↦ let P : ℕ → Type 0 = λ x. IsBitSet x k in absurd (((has_less mask k m l k).0 (subst P (sym e) s)).1 refl)
      | inr d ↦ omega arith
    ]

pub facts_like : (a b : List (List ℕ)) → IsFacts a → SameShape a b → ((i j : ℕ) → cell_at b i j < 2 ^ 16) → IsFacts b
facts_like a b is s masks =
    let wide = s.each 0 in
    record {
      has_row = omega arith;
      rows_fit = omega arith;
      has_column = omega arith;
      columns_fit = omega arith;
      rectangular = λ i m. (let x = is.rectangular i (omega arith) in let y = s.each i in omega arith);
      masks = masks;
    }

-- facts with a smaller mask in a cell are facts
lower : (facts : Masks) (row col x : ℕ) → row < length facts → col < length (row_at facts row) → x ≤ cell_at facts row col → (r c : ℕ) → cell_at (with_cell facts row col x) r c ≤ cell_at facts r c
lower facts row col x h wide le = set_each facts row col x h wide (λ r c y. y ≤ cell_at facts r c) le (λ r c d. omega arith)

pub facts_lower : (facts : Masks) (row col x : ℕ) → IsFacts facts → row < length facts → col < width_of facts → x ≤ cell_at facts row col → IsFacts (with_cell facts row col x)
facts_lower facts row col x is h w le =
    let small = lower facts row col x h (omega arith) le in
    facts_like facts (with_cell facts row col x) is (shape_with_cell facts row col x) (λ i j. (let a = is.masks i j in let b = small i j in omega arith))

abbrev with_less : Masks → ℕ → ℕ → ℕ → List (List ℕ)
with_less facts row col k = with_cell facts row col (less (cell_at facts row col) k)

module _ (facts : Masks) (row col k : ℕ) (is : IsFacts facts) (h : row < length facts) (w : col < width_of facts) (l : k < 16) where
  wide : col < length (row_at facts row)
  wide = let e = is.rectangular row h in omega arith

  shape : SameShape facts (with_less facts row col k)
  shape = shape_with_cell facts row col (less (cell_at facts row col) k)

  -- all that was left is left then, except that colour in that cell
  left_then : (r c j : ℕ) → Leaves facts r c j → ((r ≡ row) × ((c ≡ col) × (j ≡ k)) → ⊥) → Leaves (with_less facts row col k) r c j
  left_then r c j = set_each facts row col (less (cell_at facts row col) k) h wide (λ r c m. Leaves facts r c j → ((r ≡ row) × ((c ≡ col) × (j ≡ k)) → ⊥) → IsBitSet m j)
      (λ s n. (has_less (cell_at facts row col) k (is.masks row col) l j).1 (s, (λ f. n (refl, (refl, f)))))
      (λ r c d s n. s) r c

  facts_then : IsFacts (with_less facts row col k)
  facts_then = facts_lower facts row col (less (cell_at facts row col) k) is h w
      (fewer_le (less (cell_at facts row col) k) (cell_at facts row col) (λ j t. ((has_less (cell_at facts row col) k (is.masks row col) l j).0 t).0))

  within_then : IsWithin facts (with_less facts row col k)
  within_then = record {
    same_shape = shape;
    leaves = λ r c j. set_each facts row col (less (cell_at facts row col) k) h wide (λ r c m. IsBitSet m j → Leaves facts r c j)
        (λ s. ((has_less (cell_at facts row col) k (is.masks row col) l j).0 s).0) (λ r c d s. s) r c;
  }

  lighter_then : Leaves facts row col k → weight (with_less facts row col k) < weight facts
  lighter_then s =
      let sum = weight_with_cell facts row col (less (cell_at facts row col) k) h wide in
      let lt = less_is_less (cell_at facts row col) k (is.masks row col) l s in
      omega arith

-- ---- closed facts

-- facts that lie inside all closed ones over others
record LieInside (clues : Clues) (base facts : Masks) : Type 0 where
  are_facts : IsFacts facts
  holds : IsWithin base facts
  inside : (others : Masks) → IsClosed clues others → IsWithin base others → IsWithin facts others

abbrev HasLeast : Clues → Masks → Type 0
HasLeast clues base = (settled : Masks) × (IsFacts settled × IsLeast clues base settled)

-- what a line forces can be excluded
force_one : (clues : Clues) (base facts : Masks) (line : LineId) (i k : ℕ) → LieInside clues base facts → HasLine facts line → i < length (line_of facts line) → k < 16
    → IsForced (clue_at clues line) (line_of facts line) i k
    → (more : List (List ℕ)) × ((weight more < weight facts) × LieInside clues base more)
force_one clues base facts line i k a has l small forced =
    let is = a.are_facts in
    let row = row_on line.axis line.at i in
    let col = col_on line.axis line.at i in
    let place = place_on facts line i is has l in
    let s : Leaves facts row col k = rw (cell_on facts line i) at forced.is_left in
    let more = with_less facts row col k in (
      more,
      (
        lighter_then facts row col k is place.0 place.1 small s,
        record {
          are_facts = facts_then facts row col k is place.0 place.1 small;
          holds = within_trans base facts more a.holds (within_then facts row col k is place.0 place.1 small);
          inside = λ others closed w.
              let in_facts = a.inside others closed w in
              record {
                same_shape = shape_trans (shape_sym (shape facts row col k is place.0 place.1 small)) in_facts.same_shape;
                leaves = λ r c j t. left_then facts row col k is place.0 place.1 small r c j (in_facts.leaves r c j t) (λ e.
                    let here : Leaves others row col k =
                    subst (λ (x : ℕ). Leaves others row col x) e.1.1 (subst (λ (x : ℕ). Leaves others row x j) e.1.0 (subst (λ (x : ℕ). Leaves others x c j) e.0 t)) in
                    let on : IsBitSet (get_or (line_of others line) i 0) k = rw (cell_on others line i) here in
                    let have = closed line (same_has_line facts others line in_facts.same_shape has) i k on in
                    forced.forces (tighter_have (clue_at clues line) (line_of facts line) (line_of others line) (within_tighter facts others in_facts line) i k have));
              };
        },
      ),
    )

settle : (n : ℕ) (clues : Clues) (base facts : Masks) → weight facts < n → LieInside clues base facts → HasLeast clues base
settle zero clues base facts l a = absurd (omega arith)
settle (suc n) clues base facts l a =
    let P : LineId → Type 0 = λ line. ForcesSome (clue_at clues line) (line_of facts line) in
    elim (some_line facts P (λ line. forces_or_not (clue_at clues line) (line_of facts line) (small_line facts line a.are_facts))) [
      | inl found ↦
          let f = found.1.1 in
          let next = force_one clues base facts found.0 f.0 f.1.1.0 a found.1.0 f.1.0 f.1.1.1.0 f.1.1.1.1 in
          settle n clues base next.0 (let less = next.1.0 in omega arith) next.1.1
      | inr none ↦ (
        facts,
        (
          a.are_facts,
          record {
            closed = λ line has. closed_line (clue_at clues line) (line_of facts line) (small_line facts line a.are_facts) (none line has);
            holds = a.holds;
            least = a.inside;
          },
        ),
      )
    ]

pub least_is_there : (clues : Clues) (facts : Masks) → IsFacts facts → HasLeast clues facts
least_is_there clues facts is = settle (suc (weight facts)) clues facts facts (omega arith) (record { are_facts = is; holds = within_refl facts; inside = λ others closed w. w })

-- ---- lines that no list fits

pub fits_or_dead : (clues : Clues) (base settled : Masks) → IsFacts settled → IsLeast clues base settled → EachFits clues settled ⊎ HasDeadLine clues base
fits_or_dead clues base settled is least =
    let P : LineId → Type 0 = λ line. CanFit (clue_at clues line) (line_of settled line) → ⊥ in
    elim (some_line settled P unfit_or_not) [
      | inl found ↦ inr (record {
        line = found.0;
        has = same_has_line settled base found.0 (shape_sym least.holds.same_shape) found.1.0;
        dead = λ others closed w fit.
            found.1.1 (tighter_can_fit (clue_at clues found.0) (line_of settled found.0) (line_of others found.0) (within_tighter settled others (least.least others closed w) found.0) fit);
      })
      | inr none ↦ inl (λ line has. elim (fit_or_not (clue_at clues line) (line_of settled line) (small_line settled line is)) [
        | inl fit ↦ fit
        | inr n ↦ absurd (none line has n)
      ])
    ]
  where
    unfit_or_not : (line : LineId) → (CanFit (clue_at clues line) (line_of settled line) → ⊥) ⊎ ((CanFit (clue_at clues line) (line_of settled line) → ⊥) → ⊥)
    unfit_or_not line = elim (fit_or_not (clue_at clues line) (line_of settled line) (small_line settled line is)) [
      | inl fit ↦ inr (λ n. n fit)
      | inr n ↦ inl n
    ]

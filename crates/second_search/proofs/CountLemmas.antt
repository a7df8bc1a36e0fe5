-- A search that counts its splits: the search of what waits ends as that of the first facts, apart from the splits made so far.
use Rattle.std.proofs.Common.{◌≡◌, ℕ, suc, ◌+◌, ◌<◌, ◌⊎◌, Option, None, Some, List, [], ◌∷◌, ◌++◌, refl, sym, ap, subst, ◌∙◌, arith, inl, inr}
use Rattle.line_facts.specs.Masks.{Masks}
use Rattle.picture.specs.Rows.{cell_at, Rows}
use Rattle.clues.specs.ClueBook.{Clues}
use Rattle.line_facts.specs.Laws.{LeastIsUnique}
use Rattle.trail.specs.declared.cell.Cell.{Cell}
use Rattle.second_search.specs.declared.coming.Coming.{Coming}
use Rattle.second_search.specs.declared.coming.Coming.TheVariants.{Dies, Ends, Splits}
use Rattle.second_search.specs.declared.counting.Budget.{Budget}
use Rattle.second_search.specs.declared.counting.Ending.TheVariants as ending
use Rattle.second_search.specs.declared.counting.Ending.{Ending}
use Rattle.picture.specs.LineSet.{Lines}
use Rattle.trail.specs.Trail.{AreOthersSame, Trailed, trail_of}
use Rattle.fixpoint.specs.ClosedFacts.{KeepsOtherLines}
use Rattle.second_search.specs.FixedOrder.{Allows, Comes, EndsAs, Searches, SplitsBut, SplitsPast, none_waits, is_dead, is_known, is_other, is_split, once_more, past_dead, past_known, past_split}
use Rattle.second_search.specs.FixedOrder.{raised}
use Rattle.second_search.specs.SearchSteps.{Compares, IsOneLess, Steps}
use Rattle.second_search.proofs.ComingLemmas.{leads}
use Rattle.second_search.proofs.LookLemmas.{others_same}
use Rattle.second_search.proofs.TreeLemmas.{ended_lighter, split_lighter, within_lighter}
use Rattle.second_search.proofs.WeightLemmas.{load}
use Rattle.line_facts.specs.Branches.{branches}

-- the search of what waits ends as that of the first facts, with n fewer splits
pub record Going (clues : Clues) (known : Rows) (first : Masks) (waiting : List Masks) (n : ℕ) : Type 0 where
  pub on : (found : Option Rows) (m : ℕ) → Searches clues known waiting found m → Searches clues known (first ∷ []) found (m + n)
  pub back : (found : Option Rows) (m : ℕ) → Searches clues known (first ∷ []) found m → (k : ℕ) × ((m ≡ k + n) × Searches clues known waiting found k)
  pub past : (m : ℕ) → SplitsPast clues known waiting m → SplitsPast clues known (first ∷ []) (m + n)

pub going_starts : (clues : Clues) (known : Rows) (first : Masks) → Going clues known first (first ∷ []) 0
going_starts clues known first = record {
  on = λ found m s. let P : ℕ → Type 0 = λ x. Searches clues known (first ∷ []) found x in subst P (let e : m ≡ m + 0 = omega arith in e) s;
  back = λ found m s. (m, ((let e : m ≡ m + 0 = omega arith in e), s));
  past = λ m s. let P : ℕ → Type 0 = λ x. SplitsPast clues known (first ∷ []) x in subst P (let e : m ≡ m + 0 = omega arith in e) s;
}

pub going_passes : LeastIsUnique → (clues : Clues) (known : Rows) (first facts : Masks) (others : List Masks) (n : ℕ) → Going clues known first (facts ∷ others) n
    → Comes clues facts Dies ⊎ Comes clues facts (Ends known) → Going clues known first others n
going_passes unique clues known first facts others n g (inl c) = record {
  on = λ found m s. g.on found m (is_dead facts others found m c s);
  back = λ found m s. let b = g.back found m s in (b.0, (b.1.0, leads unique clues known facts others Dies found b.0 c b.1.1));
  past = λ m s. g.past m (past_dead facts others m c s);
}
going_passes unique clues known first facts others n g (inr c) = record {
  on = λ found m s. g.on found m (is_known facts others found m c s);
  back = λ found m s.
      let b = g.back found m s in
      let l = leads unique clues known facts others (Ends known) found b.0 c b.1.1 in
      (b.0, (b.1.0, elim l [ inl on ↦ on.1 | inr d ↦ absurd (d.0 refl) ]));
  past = λ m s. g.past m (past_known facts others m c s);
}

pub going_splits : LeastIsUnique → (clues : Clues) (known : Rows) (first facts settled : Masks) (cell : Cell) (others : List Masks) (n : ℕ) → Going clues known first (facts ∷ others) n
    → Comes clues facts (Splits settled cell) → Going clues known first (branches settled cell.row cell.col (cell_at settled cell.row cell.col) ++ others) (suc n)
going_splits unique clues known first facts settled cell others n g c = record {
  on = λ found m s.
      subst (λ (x : ℕ). Searches clues known (first ∷ []) found x) (let e : suc m + n ≡ m + suc n = omega arith in e) (g.on found (suc m) (is_split facts others settled cell found m c s));
  back = λ found m s.
      let b = g.back found m s in
      let l = leads unique clues known facts others (Splits settled cell) found b.0 c b.1.1 in
      (l.0, ((let e : m ≡ l.0 + suc n = omega arith in e), l.1.1));
  past = λ m s.
      subst (λ (x : ℕ). SplitsPast clues known (first ∷ []) x) (let e : suc m + n ≡ m + suc n = omega arith in e) (g.past (suc m) (past_split facts others settled cell m c s));
}

-- ---- how it ends

-- what is left of an allowance after n splits
abbrev pub IsLeft : Option ℕ → ℕ → Option ℕ → Type 0
IsLeft None n left = left ≡ None
IsLeft (Some most) n left = (m : ℕ) × ((left ≡ Some m) × (most ≡ m + n))

pub all_left : (allowance : Option ℕ) → IsLeft allowance 0 allowance
all_left None = refl
all_left (Some most) = (most, (refl, (let e : most ≡ most + 0 = omega arith in e)))

pub one_less : (allowance left rest : Option ℕ) (n : ℕ) → IsLeft allowance n left → IsOneLess left rest → IsLeft allowance (suc n) rest
one_less None left rest n h l = let P : Option ℕ → Type 0 = λ x. IsOneLess x rest in subst P h l
one_less (Some most) left rest n h l =
    let less : IsOneLess (Some h.0) rest = subst (λ (x : Option ℕ). IsOneLess x rest) h.1.0 l in
    (less.0, (less.1.1, (let e : most ≡ less.0 + suc n = omega arith in e)))

allowed : (allowance left : Option ℕ) (n : ℕ) → IsLeft allowance n left → Allows allowance n
allowed None left n h = tt
allowed (Some most) left n h = let b = h.1.1 in omega arith

used : (allowance left : Option ℕ) (n : ℕ) → IsLeft allowance n left → left ≡ Some 0 → allowance ≡ Some n
used None left n h e = absurd (let x : None ≡ Some 0 = sym h ∙ e in absurd cc)
used (Some most) left n h e =
    let z : h.0 ≡ 0 = (let s = sym h.1.0 ∙ e in cc) in
    ap Some (let s : most ≡ n = omega arith in s)

pub ends_with_nothing : (clues : Clues) (known : Rows) (first : Masks) (waiting : List Masks) (n : ℕ) (allowance left : Option ℕ) → Going clues known first waiting n → waiting ≡ []
    → IsLeft allowance n left → EndsAs clues known first allowance ending.Nothing n
ends_with_nothing clues known first waiting n allowance left g e l =
    let s : Searches clues known (first ∷ []) None (0 + n) = g.on None 0 (subst (λ (x : List (List (List ℕ))). Searches clues known x None 0) (sym e) none_waits) in
    (subst (λ (x : ℕ). Searches clues known (first ∷ []) None x) (let z : 0 + n ≡ n = omega arith in z) s, allowed allowance left n l)

pub ends_with_other : (clues : Clues) (known : Rows) (first facts : Masks) (picture : Rows) (others : List Masks) (n : ℕ) (allowance left : Option ℕ) → Going clues known first (facts ∷ others) n
    → Comes clues facts (Ends picture) → (picture ≡ known → ⊥) → IsLeft allowance n left → EndsAs clues known first allowance (ending.Found picture) n
ends_with_other clues known first facts picture others n allowance left g c d l =
    let s : Searches clues known (first ∷ []) (Some picture) (0 + n) = g.on (Some picture) 0 (is_other facts others picture c d) in
    (subst (λ (x : ℕ). Searches clues known (first ∷ []) (Some picture) x) (let z : 0 + n ≡ n = omega arith in z) s, allowed allowance left n l)

pub ends_broken_off : LeastIsUnique → (clues : Clues) (known : Rows) (first facts settled : Masks) (cell : Cell) (others : List Masks) (n : ℕ) (allowance left : Option ℕ)
    → Going clues known first (facts ∷ others) n → Comes clues facts (Splits settled cell) → left ≡ Some 0 → IsLeft allowance n left → EndsAs clues known first allowance ending.BrokenOff n
ends_broken_off unique clues known first facts settled cell others n allowance left g c z l = (
  used allowance left n l z,
  (
    (let P : ℕ → Type 0 = λ x. SplitsPast clues known (first ∷ []) x in
        subst P (let e : 0 + n ≡ n = omega arith in e) (g.past 0 (once_more facts others settled cell c))),
    (λ cost h.
        let b = g.back h.0 cost h.1 in
        let m = leads unique clues known facts others (Splits settled cell) h.0 b.0 c b.1.1 in
        omega arith),
  ),
)

-- ---- while facts wait

-- the search of what waits ends as that of the first facts, apart from the splits that were made and counted
pub record Counting (clues : Clues) (known : Rows) (first : Masks) (allowance : Option ℕ) (waiting : List Masks) (budget : Budget) : Type 0 where
  pub made : ℕ
  pub going : Going clues known first waiting made
  pub is_left : IsLeft allowance made budget.left
  pub counted : budget.splits ≡ raised 0 made

pub counting_starts : (clues : Clues) (known : Rows) (first : Masks) (allowance : Option ℕ) (s : Trailed) → s ≡ trail_of first [] []
    → Counting clues known first allowance (s.at_hand ∷ s.behind) (record { left = allowance; splits = 0 })
counting_starts clues known first allowance s e =
    subst (λ (x : Trailed). Counting clues known first allowance (x.at_hand ∷ x.behind) (record { left = allowance; splits = 0 })) (sym e) (record {
      made = 0;
      going = going_starts clues known first;
      is_left = all_left allowance;
      counted = omega arith;
    })

pub counting_goes : LeastIsUnique → (clues : Clues) (known : Rows) (first : Masks) (allowance : Option ℕ) (s t : Trailed) (before after : Budget)
    → Counting clues known first allowance (s.at_hand ∷ s.behind) before → Steps clues known s t before after None → Counting clues known first allowance t.behind after
counting_goes unique clues known first allowance s t before after c (inl h) =
    let e = ap (λ (x : Trailed). x.behind) (sym h.1.0) in
    record {
      made = c.made;
      going = rw e at (going_passes unique clues known first s.at_hand s.behind c.made c.going h.0);
      is_left = rw h.1.1 c.is_left;
      counted = ap (λ (x : Budget). x.splits) h.1.1 ∙ c.counted;
    }
counting_goes unique clues known first allowance s t before after c (inr h) =
    let e = ap (λ (x : Trailed). x.behind) (sym h.0.new_is) in
    record {
      made = suc c.made;
      going = rw e at (going_splits unique clues known first s.at_hand h.0.settled h.0.cell s.behind c.made c.going h.0.comes);
      is_left = one_less allowance before.left after.left c.made c.is_left h.1.0;
      counted = (let a = c.counted in let b = h.1.1 in omega arith);
    }

-- ---- how it ends, counted

pub counted_nothing : (clues : Clues) (known : Rows) (first : Masks) (allowance : Option ℕ) (waiting : List Masks) (budget : Budget) → Counting clues known first allowance waiting budget
    → waiting ≡ [] → (n : ℕ) × ((budget.splits ≡ raised 0 n) × EndsAs clues known first allowance ending.Nothing n)
counted_nothing clues known first allowance waiting budget c e = (c.made, (c.counted, ends_with_nothing clues known first waiting c.made allowance budget.left c.going e c.is_left))

pub counted_ending : LeastIsUnique → (clues : Clues) (known : Rows) (first : Masks) (allowance : Option ℕ) (s t : Trailed) (before after : Budget) → Counting clues known first allowance
    (s.at_hand ∷ s.behind) before → (found : Ending) → Steps clues known s t before after (Some found) → (n : ℕ) × ((after.splits ≡ raised 0 n) × EndsAs clues known first allowance found n)
counted_ending unique clues known first allowance s t before after c ending.Nothing h = absurd h
counted_ending unique clues known first allowance s t before after c (ending.Found picture) h =
    (c.made, (ap (λ (x : Budget). x.splits) h.1 ∙ c.counted, ends_with_other clues known first s.at_hand picture s.behind c.made allowance before.left c.going h.0.0 h.0.1 c.is_left))
counted_ending unique clues known first allowance s t before after c ending.BrokenOff h =
    (c.made, (ap (λ (x : Budget). x.splits) h.1.1 ∙ c.counted, ends_broken_off unique clues known first s.at_hand h.0.0 h.0.1.0 s.behind c.made allowance before.left c.going h.0.1.1 h.1.0 c.is_left))

-- ---- what a split leaves

-- the rows that are not named are the same in the facts that are split
pub split_others : (facts first settled : Masks) (coming : Coming) (cell : Cell) (lines : Lines) → first ≡ facts → coming ≡ Splits settled cell → SplitsBut first coming lines
    → AreOthersSame facts settled lines
split_others facts first settled coming cell lines e f kept =
    let h : KeepsOtherLines facts settled lines = subst (λ (x : Coming). SplitsBut facts x lines) f (subst (λ (x : List (List ℕ)). SplitsBut x coming lines) e kept) in
    others_same facts settled lines h

-- ---- the load of what waits falls

pub goes_lighter : (clues : Clues) (known : Rows) (s t u : Trailed) (before after : Budget) → Steps clues known s t before after None → t.behind ≡ u.at_hand ∷ u.behind
    → load (u.at_hand ∷ u.behind) < load (s.at_hand ∷ s.behind)
goes_lighter clues known s t u before after (inl h) e =
    let all : load s.behind ≡ load (u.at_hand ∷ u.behind) = ap load (ap (λ (x : Trailed). x.behind) (sym h.1.0) ∙ e) in
    let less = ended_lighter s.at_hand s.behind in
    omega arith
goes_lighter clues known s t u before after (inr h) e =
    let settled = h.0.settled in
    let cell = h.0.cell in
    let to = h.0.comes.0 in
    let front = branches settled cell.row cell.col (cell_at settled cell.row cell.col) in
    let all : load (front ++ s.behind) ≡ load (u.at_hand ∷ u.behind) = ap load (ap (λ (x : Trailed). x.behind) (sym h.0.new_is) ∙ e) in
    let less = split_lighter settled s.behind cell to.are_facts h.0.comes.1.is in
    let most = within_lighter s.at_hand settled s.behind to.least.holds in
    omega arith

-- ---- one look

-- a picture compared with the known one
pub compared : (clues : Clues) (known : Rows) (facts : Masks) (picture : Rows) (s : Trailed) (coming : Coming) (budget : Budget) (found : Option Ending) → facts ≡ s.at_hand → coming ≡ Ends picture
    → Comes clues facts coming → Compares known picture found → Steps clues known s s budget budget found
compared clues known facts picture s coming budget found e f c h =
    by found (subst (λ (x : Coming). Comes clues s.at_hand x) f (subst (λ (x : List (List ℕ)). Comes clues x coming) e c)) h
  where
    by : (found : Option Ending) → Comes clues s.at_hand (Ends picture) → Compares known picture found → Steps clues known s s budget budget found
    by None c e = let R : List (List ℕ) → Type 0 = λ x. Comes clues s.at_hand (Ends x) in inl (inr (subst R e c), (refl, refl))
    by (Some ending.Nothing) c e = absurd e
    by (Some (ending.Found other)) c e =
        ((rw e.0 c, (λ d. e.1 (sym e.0 ∙ d))), refl)
    by (Some ending.BrokenOff) c e = absurd e

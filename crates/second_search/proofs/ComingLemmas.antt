-- The outcome of closing facts is unique, and it decides what a search does next.
use Rattle.std.proofs.Common.{◌≡◌, ℕ, suc, ◌⊎◌, Option, None, Some, List, [], ◌∷◌, ◌++◌, refl, sym, ap, subst, ◌∙◌, arith, inl, inr}
use Rattle.std.proofs.lemmas.Bool.{cases_lt}
use Rattle.line_facts.specs.Masks.{Masks}
use Rattle.picture.specs.LineSet.{Lines}
use Rattle.picture.specs.Rows.{width_of, cell_at, Rows}
use Rattle.clues.specs.ClueBook.{Clues}
use Rattle.line_facts.specs.Laws.{LeastIsUnique}
use Rattle.line_facts.specs.FactSets.{IsFacts}
use Rattle.line_facts.proofs.GridLaws.{same_has_line, shape_sym, shape_trans}
use Rattle.line_facts.specs.declared.line_engine.Outcome.{Outcome}
use Rattle.line_facts.specs.declared.line_engine.Outcome.TheVariants.{Narrowed}
use Rattle.line_facts.specs.Branches.{branches}
use Rattle.fixpoint.specs.ClosedFacts.{Closes, HasDeadLine, KeepsOtherLines}
use Rattle.trail.specs.declared.cell.Cell.{Cell}
use Rattle.second_search.specs.declared.coming.Coming.{Coming}
use Rattle.second_search.specs.declared.coming.Coming.TheVariants.{Dies, Ends, Splits}
use Rattle.second_search.specs.SettledFacts.{IsFirstUnsettled, Shows}
use Rattle.second_search.specs.Parts.{IsBefore}
use Rattle.second_search.specs.FixedOrder.{Comes, ComesClosed, CostsAreUnique, Searches, SettlesTo, SplitsBut, none_waits, is_dead, is_known, is_other, is_split}
use Rattle.trail.proofs.GridLemmas.{same_inside}

-- ---- the outcome of closing facts is unique

abbrev Agree : Coming → Coming → Type 0
Agree Dies Dies = Unit {0}
Agree Dies (Ends q) = ⊥
Agree Dies (Splits t d) = ⊥
Agree (Ends p) Dies = ⊥
Agree (Ends p) (Ends q) = p ≡ q
Agree (Ends p) (Splits t d) = ⊥
Agree (Splits s c) Dies = ⊥
Agree (Splits s c) (Ends q) = ⊥
Agree (Splits s c) (Splits t d) = (s ≡ t) × (c ≡ d)

alive : (clues : Clues) (facts settled : Masks) → SettlesTo clues facts settled → HasDeadLine clues facts → ⊥
alive clues facts settled s d = d.dead settled s.least.closed s.least.holds (s.fits d.line (same_has_line facts settled d.line s.least.holds.same_shape d.has))

-- settled facts show one picture
one_shown : (settled : Masks) (p q : List (List ℕ)) → IsFacts settled → Shows settled p → Shows settled q → p ≡ q
one_shown settled p q is a b =
    same_inside p q (width_of q) (shape_trans a.same_shape (shape_sym b.same_shape)) b.is_picture.rectangular (λ r c h l.
    (b.only r c (omega arith) (omega arith) (cell_at p r c)).0 ((a.only r c (omega arith) (omega arith) (cell_at p r c)).1 refl))

same_place : (c d : Cell) → c.row ≡ d.row → c.col ≡ d.col → c ≡ d
same_place c d e f = ap (λ (r : ℕ). let x : Cell = record { row = r; col = c.col } in x) e ∙ ap (λ (k : ℕ). let x : Cell = record { row = d.row; col = k } in x) f

one_first : (facts : Masks) (c d : Cell) → IsFirstUnsettled facts c → IsFirstUnsettled facts d → c ≡ d
one_first facts c d a b = elim (cases_lt c.row d.row) [
  | inl l ↦ absurd (not_before c d a b (inl l))
  | inr p ↦ elim (cases_lt d.row c.row) [
    | inl m ↦ absurd (not_before d c b a (inl m))
    | inr q ↦ elim (cases_lt c.col d.col) [
      | inl l ↦ absurd (not_before c d a b (inr ((let e : c.row ≡ d.row = omega arith in e), l)))
      | inr r ↦ elim (cases_lt d.col c.col) [
        | inl m ↦ absurd (not_before d c b a (inr ((let e : d.row ≡ c.row = omega arith in e), m)))
        | inr s ↦ same_place c d (omega arith) (omega arith)
      ]
    ]
  ]
]
  where
    not_before : (x y : Cell) → IsFirstUnsettled facts x → IsFirstUnsettled facts y → IsBefore x.row x.col y.row y.col → ⊥
    not_before x y f g e = let o = g.before x.row x.col f.is.in_columns e in f.is.unsettled o.0 o.1

not_both : (settled facts : Masks) (picture : Rows) (cell : Cell) → settled ≡ facts → Shows settled picture → IsFirstUnsettled facts cell → ⊥
not_both settled facts picture cell e s f =
    let t : Shows facts picture = subst (λ (x : List (List ℕ)). Shows x picture) e s in
    f.is.unsettled (cell_at picture cell.row cell.col) (t.only cell.row cell.col f.is.in_rows f.is.in_columns)

module _ (unique : LeastIsUnique) (clues : Clues) (facts : Masks) where
  one_settled : (s t : List (List ℕ)) → SettlesTo clues facts s → SettlesTo clues facts t → s ≡ t
  one_settled s t a b = unique clues facts s t a.least b.least

  agree : (a b : Coming) → Comes clues facts a → Comes clues facts b → Agree a b
  agree Dies Dies h k = tt
  agree Dies (Ends q) h k = alive clues facts k.0 k.1.0 h
  agree Dies (Splits t d) h k = alive clues facts t k.0 h
  agree (Ends p) Dies h k = alive clues facts h.0 h.1.0 k
  agree (Ends p) (Ends q) h k =
      one_shown k.0 p q k.1.0.are_facts (subst (λ (x : List (List ℕ)). Shows x p) (one_settled h.0 k.0 h.1.0 k.1.0) h.1.1) k.1.1
  agree (Ends p) (Splits t d) h k = not_both h.0 t p d (one_settled h.0 t h.1.0 k.0) h.1.1 k.1
  agree (Splits s c) Dies h k = alive clues facts s h.0 k
  agree (Splits s c) (Ends q) h k = not_both k.0 s q c (one_settled k.0 s k.1.0 h.0) k.1.1 h.1
  agree (Splits s c) (Splits t d) h k =
      let e = one_settled s t h.0 k.0 in
      (e, one_first t c d (subst (λ (x : List (List ℕ)). IsFirstUnsettled x c) e h.1) k.1)

-- ---- what a search does next

-- what is left to search after an outcome of the first facts, and what is found then
abbrev pub Leads : Clues → Rows → List Masks → Coming → Option Rows → ℕ → Type 0
Leads clues known others Dies found n = Searches clues known others found n
Leads clues known others (Ends p) found n = ((p ≡ known) × Searches clues known others found n) ⊎ ((p ≡ known → ⊥) × ((found ≡ Some p) × (n ≡ 0)))
Leads clues known others (Splits s c) found n = (m : ℕ) × ((n ≡ suc m) × Searches clues known (branches s c.row c.col (cell_at s c.row c.col) ++ others) found m)

abbrev Begins : Clues → Rows → List (List (List ℕ)) → Option Rows → ℕ → Type 0
Begins clues known [] found n = (found ≡ None) × (n ≡ 0)
Begins clues known (facts ∷ others) found n = (coming : Coming) × (Comes clues facts coming × Leads clues known others coming found n)

begins : (clues : Clues) (known : Rows) (waiting : List Masks) (found : Option Rows) (n : ℕ) → Searches clues known waiting found n → Begins clues known waiting found n
begins clues known _ _ _ none_waits = (refl, refl)
begins clues known _ _ _ (is_dead facts others found n c s) = (Dies, (c, s))
begins clues known _ _ _ (is_known facts others found n c s) = (Ends known, (c, inl (refl, s)))
begins clues known _ _ _ (is_other facts others picture c d) = (Ends picture, (c, inr (d, (refl, refl))))
begins clues known _ _ _ (is_split facts others settled cell found n c s) = (Splits settled cell, (c, (n, (refl, s))))

leads_as : (clues : Clues) (known : Rows) (others : List Masks) (found : Option Rows) (n : ℕ) (a b : Coming) → Agree a b → Leads clues known others a found n → Leads clues known others b found n
leads_as clues known others found n Dies Dies g l = l
leads_as clues known others found n Dies (Ends q) g l = absurd g
leads_as clues known others found n Dies (Splits t d) g l = absurd g
leads_as clues known others found n (Ends p) Dies g l = absurd g
leads_as clues known others found n (Ends p) (Ends q) g l = let P : List (List ℕ) → Type 0 = λ x. Leads clues known others (Ends x) found n in subst P g l
leads_as clues known others found n (Ends p) (Splits t d) g l = absurd g
leads_as clues known others found n (Splits s c) Dies g l = absurd g
leads_as clues known others found n (Splits s c) (Ends q) g l = absurd g
leads_as clues known others found n (Splits s c) (Splits t d) g l =
    subst (λ (x : Cell). Leads clues known others (Splits t x) found n) g.1 (subst (λ (x : List (List ℕ)). Leads clues known others (Splits x c) found n) g.0 l)

-- a search goes on as the outcome of its first facts leads
pub leads : LeastIsUnique → (clues : Clues) (known : Rows) (facts : Masks) (others : List Masks) (coming : Coming) (found : Option Rows) (n : ℕ) → Comes clues facts coming
    → Searches clues known (facts ∷ others) found n → Leads clues known others coming found n
leads unique clues known facts others coming found n c s =
    let b = begins clues known (facts ∷ others) found n s in
    leads_as clues known others found n b.0 coming (agree unique clues facts b.0 coming b.1.0 c) b.1.1

-- ---- facts that were closed

comes_of : (clues : Clues) (facts settled : Masks) (outcome : Outcome) → Closes clues facts settled outcome → outcome ≡ Narrowed → (coming : Coming) → ComesClosed settled coming
    → Comes clues facts coming
comes_of clues facts settled outcome c e Dies h = absurd h
comes_of clues facts settled outcome c e (Ends picture) h = (settled, (record { are_facts = h.0; least = c.least e; fits = c.fits e }, h.1))
comes_of clues facts settled outcome c e (Splits more cell) h =
    subst (λ (x : List (List ℕ)). SettlesTo clues facts x × IsFirstUnsettled x cell) (sym h.0) (record { are_facts = h.1.0; least = c.least e; fits = c.fits e }, h.1.1)

pub comes_closed : (clues : Clues) (facts first settled : Masks) (outcome : Outcome) (coming : Coming) → first ≡ facts → Closes clues first settled outcome → outcome ≡ Narrowed
    → ComesClosed settled coming → Comes clues facts coming
comes_closed clues facts first settled outcome coming same c e h =
    comes_of clues facts settled outcome (subst (λ (x : List (List ℕ)). Closes clues x settled outcome) same c) e coming h

-- facts that are to be split differ from those before only in the lines that closing named
pub splits_but : (facts first settled : Masks) (coming : Coming) (lines : Lines) → first ≡ facts → KeepsOtherLines first settled lines → ComesClosed settled coming → SplitsBut facts coming lines
splits_but facts first settled Dies lines e kept h = tt
splits_but facts first settled (Ends picture) lines e kept h = tt
splits_but facts first settled (Splits more cell) lines e kept h = rw (← e, h.0) kept

-- ---- a search ends in one way

one_search : LeastIsUnique → (clues : Clues) (known : Rows) (waiting : List Masks) (found : Option Rows) (n : ℕ) → Searches clues known waiting found n → (other : Option Rows) (m : ℕ)
    → Searches clues known waiting other m → n ≡ m
one_search unique clues known _ _ _ none_waits other m t = sym (begins clues known [] other m t).1
one_search unique clues known _ _ _ (is_dead facts others found n c s) other m t = one_search unique clues known others found n s other m (leads unique clues known facts others Dies other m c t)
one_search unique clues known _ _ _ (is_known facts others found n c s) other m t = elim (leads unique clues known facts others (Ends known) other m c t) [
  | inl l ↦ one_search unique clues known others found n s other m l.1
  | inr d ↦ absurd (d.0 refl)
]
one_search unique clues known _ _ _ (is_other facts others picture c d) other m t = elim (leads unique clues known facts others (Ends picture) other m c t) [
  | inl l ↦ absurd (d l.0)
  | inr r ↦ sym r.1.1
]
one_search unique clues known _ _ _ (is_split facts others settled cell found n c s) other m t =
    let l = leads unique clues known facts others (Splits settled cell) other m c t in
    ap suc (one_search unique clues known (branches settled cell.row cell.col (cell_at settled cell.row cell.col) ++ others) found n s other l.0 l.1.1) ∙ sym l.1.0

pub costs_are_unique : LeastIsUnique → CostsAreUnique
costs_are_unique unique clues known facts m n h k = one_search unique clues known (facts ∷ []) h.0 m h.1 k.0 n k.1

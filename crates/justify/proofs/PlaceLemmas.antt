-- The cells of a line, by their places along it.
use Rattle.std.proofs.Common.{◌≡◌, ℕ, ◌⊎◌, ◌↔◌, ◌==◌, List, refl, sym, ◌∙◌, subst, rules, inl, inr, IsTrue}
use Rattle.std.proofs.lemmas.Bool.{cases_eq}
use Rattle.picture.specs.declared.line_id.Axis.{Axis}
use Rattle.picture.specs.declared.line_id.Axis.TheVariants.{Across, Down}
use Rattle.picture.specs.declared.line_id.LineId.{LineId}
use Rattle.line_facts.specs.FactSets.{IsOn, row_on, col_on}
use Rattle.justify.specs.declared.step.Step.{Step}
use Rattle.justify.specs.Premises.{Says}
use Rattle.justify.specs.Steps.{step_at, Draws}
use Rattle.justify.specs.Book.{IsDrawnBefore}
use Rattle.justify.proofs.SaidLemmas.{below_or_none, says_or_not}

is_true_eq : (a b : ℕ) → IsTrue (a == b) → a ≡ b
is_true_eq a b h = search rules

eq_is_true : (a b : ℕ) → a ≡ b → IsTrue (a == b)
eq_is_true a b h = search rules

pub passes_across : (line : LineId) (row col : ℕ) → line.axis ≡ Across → IsTrue (row == line.at) ↔ IsOn line row col
passes_across line row col e =
    subst (λ (a : Axis). IsTrue (row == line.at) ↔ ((i : ℕ) × (row ≡ row_on a line.at i) × (col ≡ col_on a line.at i))) (sym e)
    ((λ t. (col, is_true_eq row line.at t, refl)), (λ p. eq_is_true row line.at p.1))

pub passes_down : (line : LineId) (row col : ℕ) → line.axis ≡ Down → IsTrue (col == line.at) ↔ IsOn line row col
passes_down line row col e =
    subst (λ (a : Axis). IsTrue (col == line.at) ↔ ((i : ℕ) × (row ≡ row_on a line.at i) × (col ≡ col_on a line.at i))) (sym e)
    ((λ t. (row, refl, is_true_eq col line.at t)), (λ p. eq_is_true col line.at p.2))

one_by : (axis : Axis) (at i j : ℕ) → row_on axis at i ≡ row_on axis at j → col_on axis at i ≡ col_on axis at j → i ≡ j
one_by Across at i j r c = c
one_by Down at i j r c = r

-- a cell has one place along a line
pub one_along : (line : LineId) (row col i j : ℕ) → row ≡ row_on line.axis line.at i → col ≡ col_on line.axis line.at i → row ≡ row_on line.axis line.at j → col ≡ col_on line.axis line.at j → i ≡ j
one_along line row col i j r c s d = one_by line.axis line.at i j (sym r ∙ s) (sym c ∙ d)

on_by : (axis : Axis) (at row col : ℕ) → ((i : ℕ) × (row ≡ row_on axis at i) × (col ≡ col_on axis at i)) ⊎ (((i : ℕ) × (row ≡ row_on axis at i) × (col ≡ col_on axis at i)) → ⊥)
on_by Across at row col = elim (cases_eq row at) [ inl e ↦ inl (col, e, refl) | inr n ↦ inr (λ p. n p.1) ]
on_by Down at row col = elim (cases_eq col at) [ inl e ↦ inl (row, refl, e) | inr n ↦ inr (λ p. n p.2) ]

pub on_or_not : (line : LineId) (row col : ℕ) → IsOn line row col ⊎ (IsOn line row col → ⊥)
on_or_not line row col = on_by line.axis line.at row col

pub draws_or_not : (step : Step) (row col k : ℕ) → Draws step row col k ⊎ (Draws step row col k → ⊥)
draws_or_not step row col k = elim (on_or_not step.line row col) [
  | inl on ↦ elim (says_or_not step.drawn on.0 k) [
    | inl s ↦ inl (record { place = on.0; in_row = on.1; in_column = on.2; says = s })
    | inr n ↦ inr (λ d. n (let P : ℕ → Type 0 = λ i. Says step.drawn i k in subst P (one_along step.line row col d.place on.0 d.in_row d.in_column on.1 on.2) d.says))
  ]
  | inr off ↦ inr (λ d. off (d.place, d.in_row, d.in_column))
]

pub drawn_or_not : (steps : List Step) (n row col k : ℕ) → IsDrawnBefore steps n row col k ⊎ (IsDrawnBefore steps n row col k → ⊥)
drawn_or_not steps n row col k =
    elim (below_or_none (λ m. Draws (step_at steps m) row col k) (λ m. draws_or_not (step_at steps m) row col k) n) [
      | inl w ↦ inl (record { which = w.0; before = w.1; draws = w.2 })
      | inr none ↦ inr (λ d. none d.which d.before d.draws)
    ]

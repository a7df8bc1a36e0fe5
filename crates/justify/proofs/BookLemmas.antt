-- Books with one more step.
use Rattle.std.proofs.Common.{◌≡◌, ℕ, ◌+◌, ◌<◌, ◌≤◌, ◌⊎◌, List, [], ◌∷◌, ◌++◌, length, get_or, sym, subst, arith, inl, inr, length-append}
use Rattle.std.proofs.Math.ListN.{get_or-append}
use Rattle.std.proofs.Math.Seq.{get_or-append_seam}
use Rattle.std.proofs.lemmas.Bool.{cases_eq}
use Rattle.std.proofs.lemmas.List.{get_or_read}
use Rattle.line_facts.specs.Masks.{Masks}
use Rattle.justify.specs.declared.step.Step.{Step}
use Rattle.picture.specs.Rows.{line_of}
use Rattle.justify.specs.Premises.{Mentions}
use Rattle.justify.specs.Steps.{step_at, Draws}
use Rattle.justify.specs.Book.{Account, account, IsAccount, AreFactsBehind, CanFollow, CanAdd, GainDrawn, IsDrawnBefore}
use Rattle.line_facts.proofs.GridLaws.{same_line_length, shape_trans}

pub step_before : (steps : List Step) (step : Step) (j : ℕ) → j < length steps → step_at (steps ++ step ∷ []) j ≡ step_at steps j
step_before steps step j l = get_or-append steps (step ∷ []) _ j l

pub step_last : (steps : List Step) (step : Step) → step_at (steps ++ step ∷ []) (length steps) ≡ step
step_last steps step = get_or-append_seam steps step [] _

pub one_longer : (steps : List Step) (step : Step) → length (steps ++ step ∷ []) ≡ length steps + 1
one_longer steps step = length-append steps (step ∷ [])

module _ (steps : List Step) (step : Step) (n : ℕ) (within : n ≤ length steps) (row col k : ℕ) where
  pub drawn_more : IsDrawnBefore steps n row col k → IsDrawnBefore (steps ++ step ∷ []) n row col k
  drawn_more d =
      let l : d.which < length steps = (let b = d.before in omega arith) in
      record { which = d.which; before = d.before; draws = (let P : Step → Type 0 = λ s. Draws s row col k in subst P (sym (step_before steps step d.which l)) d.draws) }

  pub drawn_fewer : IsDrawnBefore (steps ++ step ∷ []) n row col k → IsDrawnBefore steps n row col k
  drawn_fewer d =
      let l : d.which < length steps = (let b = d.before in omega arith) in
      record { which = d.which; before = d.before; draws = (let P : Step → Type 0 = λ s. Draws s row col k in subst P (step_before steps step d.which l) d.draws) }

pub follows_more : (base : Masks) (steps : List Step) (more : Step) (n : ℕ) (step : Step) → n ≤ length steps → CanFollow base steps n step → CanFollow base (steps ++ more ∷ []) n step
follows_more base steps more n step within f = record {
  has_line = f.has_line;
  premises_inside = f.premises_inside;
  drawn_inside = f.drawn_inside;
  something = f.something;
  known = λ i k s. elim (f.known i k s) [ inl given ↦ inl given | inr d ↦ inr (drawn_more steps more n within _ _ k d) ];
  drawn_once = λ i k s d. f.drawn_once i k s (drawn_fewer steps more n within _ _ k d);
}

module _ (base : Masks) (steps : List Step) (step : Step) (old new : Masks) (b : AreFactsBehind base steps (length steps) old) (g : GainDrawn step old new) where
  drawn_here : (row col k : ℕ) → Draws step row col k → IsDrawnBefore (steps ++ step ∷ []) (length steps + 1) row col k
  drawn_here row col k d = record { which = length steps; before = omega arith; draws = (let P : Step → Type 0 = λ s. Draws s row col k in subst P (sym (step_last steps step)) d) }

  drawn_earlier : (row col k : ℕ) → IsDrawnBefore steps (length steps) row col k → IsDrawnBefore (steps ++ step ∷ []) (length steps + 1) row col k
  drawn_earlier row col k d =
      let m = drawn_more steps step (length steps) (omega arith) row col k d in
      record { which = m.which; before = (let l = m.before in omega arith); draws = m.draws }

  drawn_where : (row col k : ℕ) → IsDrawnBefore (steps ++ step ∷ []) (length steps + 1) row col k → IsDrawnBefore steps (length steps) row col k ⊎ Draws step row col k
  drawn_where row col k d = elim (cases_eq d.which (length steps)) [
    | inl e ↦
        inr (subst (λ (s : Step). Draws s row col k) (step_last steps step) (subst (λ (j : ℕ). Draws (step_at (steps ++ step ∷ []) j) row col k) e d.draws))
    | inr other ↦ inl (drawn_fewer steps step (length steps) (omega arith) row col k (record { which = d.which; before = (let l = d.before in omega arith); draws = d.draws }))
  ]

  pub behind_more : AreFactsBehind base (steps ++ step ∷ []) (length (steps ++ step ∷ [])) new
  behind_more =
      subst (λ (n : ℕ). AreFactsBehind base (steps ++ step ∷ []) n new) (sym (one_longer steps step)) (record {
        same_shape = shape_trans b.same_shape g.same_shape;
        leaves = λ row col k. (
          (λ s.
              let o = (g.leaves row col k).0 s in
              let f = (b.leaves row col k).0 o.0 in
              (f.0, λ d. elim (drawn_where row col k d) [ inl e ↦ f.1 e | inr h ↦ o.1 h ])),
          (λ p. (g.leaves row col k).1 ((b.leaves row col k).1 (p.0, λ d. p.1 (drawn_earlier row col k d)), λ d. p.1 (drawn_here row col k d))),
        );
      })

pub account_more : (base : Masks) (steps : List Step) (old new : Masks) (step : Step) → IsAccount (account base steps old) → CanAdd (account base steps old) step → GainDrawn step old new
    → IsAccount (account base (steps ++ step ∷ []) new)
account_more base steps old new step is can g = record {
  base_facts = is.base_facts;
  follows = λ n l. elim (cases_eq n (length steps)) [
    | inl e ↦
        subst (λ (m : ℕ). CanFollow base (steps ++ step ∷ []) m (step_at (steps ++ step ∷ []) m)) (sym e)
        (rw (step_last steps step) (follows_more base steps step (length steps) step (omega arith) can))
    | inr other ↦
        let len = one_longer steps step in
        let m : n < length steps = omega arith in
        subst (λ (s : Step). CanFollow base (steps ++ step ∷ []) n s) (sym (step_before steps step n m)) (follows_more base steps step n (step_at steps n) (omega arith) (is.follows n m))
  ];
  behind = behind_more base steps step old new is.behind g;
}

-- what the step that was added draws is on its line of the facts
pub drawn_lies_inside : (base : Masks) (steps : List Step) (facts : Masks) (step : Step) → IsAccount (account base steps facts) → CanAdd (account base steps facts) step → (i : ℕ)
    → Mentions step.drawn i → i < length (line_of facts step.line)
drawn_lies_inside base steps facts step is can i m =
    let len = same_line_length base facts step.line is.behind.same_shape in
    let l = can.drawn_inside i m in
    omega arith

-- the item after all steps is the step that was appended
pub found_last : (steps items : List Step) (step found : Step) (n : ℕ) → n ≡ length steps → items ≡ steps ++ step ∷ [] → found ≡ get_or items n found → found ≡ step
found_last steps items step found n at e here = grind (arith, get_or, get_or-append_seam, length)

-- a step that was read from the list of a book's steps
pub record IsRead (book : Account) (n : ℕ) (step : Step) : Type 0 where
  pub within : n < length book.steps
  pub same : step ≡ step_at book.steps n
  pub follows : CanFollow book.base book.steps n step

pub step_read : (book : Account) (steps : List Step) (n : ℕ) (step : Step) → IsAccount book → steps ≡ book.steps → n < length steps → step ≡ get_or steps n step → IsRead book n step
step_read book steps n step is e l here =
    let within : n < length book.steps = subst (λ s. n < length s) e l in
    let same : step ≡ step_at book.steps n = subst (λ s. step ≡ step_at s n) e (get_or_read steps n step l here _) in
    record { within = within; same = same; follows = subst (CanFollow book.base book.steps n) (sym same) (is.follows n within) }

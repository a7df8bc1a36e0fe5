-- What was kept of the first steps of a book.
use Rattle.std.proofs.Common.{◌≡◌, ℕ, suc, ◌+◌, ◌<◌, ◌≤◌, List, [], ◌∷◌, length, drop, refl, sym, ap, subst, ◌∙◌, arith, ◌↔◌}
use Rattle.std.proofs.lemmas.List.{drop_all}
use Rattle.std.proofs.Math.Seq.{drop-cons}
use Rattle.line_facts.specs.Masks.{Masks}
use Rattle.picture.specs.declared.line_id.Axis.{Axis}
use Rattle.picture.specs.declared.line_id.Axis.TheVariants.{Across, Down}
use Rattle.picture.specs.declared.line_id.LineId.{LineId}
use Rattle.picture.specs.Rows.{lines_along}
use Rattle.clues.specs.Change.{AreMoves, Moves, lines_after}
use Rattle.clues.specs.ClueBook.{Clues}
use Rattle.line_facts.specs.FactSets.{Excludes, IsFacts}
use Rattle.justify.specs.declared.step.Step.{Step}
use Rattle.justify.specs.Steps.{step_at}
use Rattle.justify.specs.Book.{Account, Adds, AreTrimmed, CanAdd, IsAccount, IsDerivation, IsKnownBefore, account}
use Rattle.justify.proofs.LawLemmas.{derivations_grow, facts_known}
use Rattle.retract.specs.StandingSteps.{AreStanding, HaveBooks, Leave, Stands, moved}
use Rattle.retract.proofs.CellLemmas.{CameBefore}
use Rattle.retract.proofs.KeepLemmas.{came_from, came_more, came_weaker, can_follow, is_forced, is_trimmed, no_step}
use Rattle.retract.proofs.LeaveLemmas.{none_left, one_gone, one_kept, stands_alike}

drop_here : (steps : List Step) (n : ℕ) → n < length steps → drop n steps ≡ step_at steps n ∷ drop (n + 1) steps
drop_here steps n within = let next : suc n ≡ n + 1 = omega arith in drop-cons steps n no_step within ∙ ap (λ m. step_at steps n ∷ drop m steps) next

pub record KeepsSoFar (moves : Moves) (old new : Clues) (book : Account) (base : Masks) (n : ℕ) (kept : Account) : Type 0 where
  pub base_is : kept.base ≡ base
  pub came : CameBefore moves book.steps n kept.steps
  pub left : (all : List Step) → Leave moves old new base (drop n book.steps) kept.steps all → Leave moves old new base book.steps [] all
  pub derivation : IsDerivation new kept
  pub trimmed : AreTrimmed old book → AreTrimmed new kept

pub so_far_none : (moves : Moves) (old new : Clues) (book : Account) (base : Masks) → HaveBooks moves old new → ((axis : Axis) → lines_along axis base ≡ lines_after axis moves)
    → KeepsSoFar moves old new book base 0 (account base [] base)
so_far_none moves old new book base books sizes = record {
  base_is = refl;
  came = λ m h. absurd (omega arith);
  left = λ all rest. rest;
  derivation = record {
    rows = sizes Across ∙ sym (books.after Across);
    columns = sizes Down ∙ sym (books.after Down);
    forced = λ n h. absurd (omega arith);
  };
  trimmed = λ t n h. absurd (omega arith);
}

module _ (moves : Moves) (old new : Clues) (book : Account) (base : Masks) (n : ℕ) (kept : Account) (within : n < length book.steps) (so_far : KeepsSoFar moves old new book base n kept)
    (is_kept : IsAccount kept) where
  -- what the facts exclude is what is known
  excluded_known : (row col k : ℕ) → Excludes kept.facts row col k ↔ IsKnownBefore kept.base kept.steps (length kept.steps) row col k
  excluded_known row col k = facts_known kept.base kept.facts kept.steps (length kept.steps) is_kept.behind row col k

  pub so_far_gone : ((to : LineId) → Stands moves old new (Excludes kept.facts) (step_at book.steps n) to → ⊥) → KeepsSoFar moves old new book base (n + 1) kept
  so_far_gone gone = record {
    base_is = so_far.base_is;
    came = came_weaker moves book.steps kept.steps n so_far.came;
    left = λ all rest.
        so_far.left all
        (subst (λ steps. Leave moves old new base steps kept.steps all) (sym (drop_here book.steps n within))
        (one_gone moves old new base (step_at book.steps n) (drop (n + 1) book.steps) kept.steps all
        (λ to stands. gone to (stands_alike moves old new (IsKnownBefore base kept.steps (length kept.steps)) (Excludes kept.facts) (step_at book.steps n) to
        (λ row col k is. (excluded_known row col k).1 (rw so_far.base_is is)) stands)) rest));
    derivation = so_far.derivation;
    trimmed = so_far.trimmed;
  }

  module _ (to : LineId) (are : AreMoves moves) (is : IsAccount book) (derivation : IsDerivation old book) (books : HaveBooks moves old new)
      (new_sizes : (axis : Axis) → lines_along axis base ≡ lines_after axis moves) (stands : Stands moves old new (Excludes kept.facts) (step_at book.steps n) to) where
    base_facts : IsFacts base
    base_facts = rw (← so_far.base_is) is_kept.base_facts

    known_in : (row col k : ℕ) → Excludes kept.facts row col k → IsKnownBefore base kept.steps (length kept.steps) row col k
    known_in row col k h = rw (← so_far.base_is) ((excluded_known row col k).0 h)

    pub can_add : CanAdd kept (moved (step_at book.steps n) to)
    can_add = rw so_far.base_is (can_follow moves old new book base kept.steps n to (Excludes kept.facts) are is derivation books base_facts new_sizes within stands so_far.came known_in)

    pub so_far_kept : (after : Account) → Adds kept (moved (step_at book.steps n) to) after → KeepsSoFar moves old new book base (n + 1) after
    so_far_kept after adds =
        let step = step_at book.steps n in
        let forced = is_forced moves old new book base kept.steps n to (Excludes kept.facts) are is derivation books base_facts new_sizes within stands in
        record {
          base_is = adds.base ∙ so_far.base_is;
          came = rw adds.steps (came_more moves book.steps kept.steps n (moved step to) so_far.came
              (came_from moves old new book base kept.steps n to (Excludes kept.facts) are is derivation books base_facts new_sizes within stands));
          left = λ all rest.
              so_far.left all
              (subst (λ steps. Leave moves old new base steps kept.steps all) (sym (drop_here book.steps n within))
              (one_kept moves old new base step (drop (n + 1) book.steps) kept.steps all to
              (stands_alike moves old new (Excludes kept.facts) (IsKnownBefore base kept.steps (length kept.steps)) step to known_in stands)
              (rw adds.steps at rest)));
          derivation = derivations_grow.derives new kept after (moved step to) is_kept adds (rw so_far.base_is forced) so_far.derivation;
          trimmed = λ t.
              derivations_grow.trimmed new kept after (moved step to) is_kept adds
              (rw so_far.base_is (is_trimmed moves old new book base kept.steps n to (Excludes kept.facts) are is derivation books base_facts new_sizes within stands (t n within)))
              (so_far.trimmed t);
        }

pub so_far_all : (moves : Moves) (old new : Clues) (book : Account) (base : Masks) (n : ℕ) (kept : Account) → length book.steps ≤ n → KeepsSoFar moves old new book base n kept
    → AreStanding moves old new base book.steps kept.steps
so_far_all moves old new book base n kept all so_far =
    so_far.left kept.steps (subst (λ steps. Leave moves old new base steps kept.steps kept.steps) (sym (drop_all n book.steps all)) (none_left moves old new base kept.steps))

-- A path look by look.
use Rattle.std.proofs.Common.{◌≡◌, ℕ, ◌-◌, List, [], ◌∷◌, ◌++◌, refl, sym, ap, subst, ◌∙◌, eqb-true, eq-eqb}
use Rattle.std.specs.Prelude.{count_ones, ◌==◌, Bool, true, false}
use Rattle.std.specs.List.{sum_by}
use Rattle.line_facts.specs.Masks.{Masks}
use Rattle.clues.specs.ClueBook.{Clues, clue_at}
use Rattle.grade.specs.declared.seen.Seen.{Seen}
use Rattle.grade.specs.Looks.{Look, exclusions}
use Rattle.grade.specs.Paths.{GoesOn, IsMade, IsPath, Made, Makes}
use Rattle.grade.specs.Runs.{look_in}
use Rattle.grade.specs.Walking.{seen_in}

abbrev excluded_in : Seen → ℕ
excluded_in seen = sum_by count_ones seen.before - sum_by count_ones seen.after

module _ (clues : Clues) (seen : Seen) (old new : Masks) (looks : List Look) (path : List Made) (n : ℕ) (is : seen ≡ seen_in seen.turn old new) (count : n ≡ excluded_in seen)
    (before : IsPath clues looks path) where
  same_count : n ≡ exclusions (look_in seen.turn old new)
  same_count = count ∙ ap excluded_in is

  by_count : (b : Bool) → (exclusions (look_in seen.turn old new) == 0) ≡ b → (next : List Made) → GoesOn b clues (look_in seen.turn old new) (IsPath clues looks) next
      → IsPath clues (look_in seen.turn old new ∷ looks) next
  by_count b e next on = subst (λ (c : Bool). GoesOn c clues (look_in seen.turn old new) (IsPath clues looks) next) (sym e) on

  pub goes_on : (n ≡ 0 → ⊥) → (step : Made) → Makes (clue_at clues seen.turn.line) seen.turn.line seen.turn.round seen.before seen.after step
      → IsPath clues (look_in seen.turn old new ∷ looks) (path ++ step ∷ [])
  goes_on some step makes = by (exclusions (look_in seen.turn old new) == 0) refl
    where
      made : IsMade clues (look_in seen.turn old new) step
      made = subst (λ (s : Seen). Makes (clue_at clues seen.turn.line) seen.turn.line seen.turn.round s.before s.after step) is makes

      by : (b : Bool) → (exclusions (look_in seen.turn old new) == 0) ≡ b → IsPath clues (look_in seen.turn old new ∷ looks) (path ++ step ∷ [])
      by true t = absurd (some (same_count ∙ eqb-true (exclusions (look_in seen.turn old new)) 0 t))
      by false f = by_count false f (path ++ step ∷ []) (path, (step, (before, (made, refl))))

  pub stays : n ≡ 0 → IsPath clues (look_in seen.turn old new ∷ looks) path
  stays none = by_count true (eq-eqb (exclusions (look_in seen.turn old new)) 0 (sym same_count ∙ none)) path before

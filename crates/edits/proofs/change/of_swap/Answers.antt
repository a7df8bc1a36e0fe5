use Rattle.std.proofs.Common.{◌≡◌, ℕ, length, sym, ap, subst, ◌∙◌, arith, ◌↔◌}
use Rattle.picture.specs.declared.line_id.LineId.{LineId}
use Rattle.picture.specs.Rows.{width_of, lines_swapped}
use Rattle.clues.specs.declared.places.Places.TheVariants.{Swapped}
use Rattle.clues.specs.Change.{FollowsSwap, IsTouched, Moves, moved_along}
use Rattle.edits.specs.Change.{CrossesApart}
use Rattle.edits.specs.Note.{cells_along}
use Rattle.edits.proofs.ChangeLemmas.{swap_exact}
use Rattle.edits.proofs.change.of_swap.Goals as goal

pub returns-clause-exact : goal.returns-clause-exact
returns-clause-exact c =
    let old = c.args.old.now in
    let axis = c.args.axis in
    let first = c.args.first in
    let second = c.args.second in
    let high = c.height.ensures.value in
    let wide = c.width.ensures.value in
    let start : c.swap-change.result.moves ≡ moved_along axis (Swapped first second) (length old) (width_of old) = c.swap-change.ensures.moves
    ∙ (ap (λ (h : ℕ). moved_along axis (Swapped first second) h c.width.result) high ∙ ap (λ (w : ℕ). moved_along axis (Swapped first second) (length old) w) wide) in
    let follows : FollowsSwap axis first second c.swap-change.result.moves old (lines_swapped axis first second old) =
    c.swap-change.ensures.lines old (record { is_picture = c.width.ensures.picture; row_count = sym high; column_count = sym wide }) in
    let all : c.loop-at.at ≡ cells_along axis old = omega (arith, c.line_length-at-end.ensures.value) in
    rw c.requires.swapped
    (swap_exact c.loop-at.change axis first second old c.width.ensures.picture c.requires.first_in c.requires.second_in
    (subst (λ (m : Moves). FollowsSwap axis first second m old (lines_swapped axis first second old)) (start ∙ sym c.loop-at.invariant.moves) follows)
    (subst (λ (n : ℕ). (line : LineId) → IsTouched c.loop-at.change line ↔ CrossesApart n axis first second old line) all c.loop-at.invariant.touched))

use Rattle.std.proofs.Common.{◌≡◌, ℕ, length, sym, ap, subst, ◌∙◌, arith, ◌↔◌}
use Rattle.picture.specs.declared.line_id.LineId.{LineId}
use Rattle.picture.specs.Rows.{width_of}
use Rattle.clues.specs.Change.{FollowsCells, IsTouched, Moves, still}
use Rattle.edits.specs.Change.{IsCrossed}
use Rattle.edits.proofs.ChangeLemmas.{cells_exact}
use Rattle.edits.proofs.change.of_cells.Goals as goal

pub returns-clause-exact : goal.returns-clause-exact
returns-clause-exact c =
    let old = c.args.old.now in
    let new = c.args.new.now in
    let high = c.height.ensures.value in
    let wide = c.width.ensures.value in
    let start : c.cells-change.result.moves ≡ still (length old) (width_of old) = c.cells-change.ensures.moves
    ∙ (ap (λ (h : ℕ). still h c.width.result) high ∙ ap (λ (w : ℕ). still (length old) w) wide) in
    let follows : FollowsCells c.cells-change.result.moves old new =
    c.cells-change.ensures.lines old new
    (record { is_picture = c.width.ensures.picture; row_count = sym high; column_count = sym wide })
    (record { is_picture = c.requires.picture; row_count = c.requires.differ.row_count ∙ sym high; column_count = c.requires.differ.column_count ∙ sym wide }) in
    let all : c.loop-row.row-index ≡ length c.args.cells.now = omega arith in
    cells_exact c.loop-row.change old new c.args.cells.now c.width.ensures.picture c.requires.picture c.requires.differ
    (subst (λ (m : Moves). FollowsCells m old new) (start ∙ sym c.loop-row.invariant.moves) follows)
    (subst (λ (n : ℕ). (line : LineId) → IsTouched c.loop-row.change line ↔ IsCrossed n c.args.cells.now line) all c.loop-row.invariant.touched)

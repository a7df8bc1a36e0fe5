use Rattle.std.proofs.Common.{◌<◌, ◌≤◌, arith, refl}
use Rattle.picture.specs.Rows.{lines_along}
use Rattle.trail.specs.Through.{across}
use Rattle.cert_check.specs.Puzzle.{line_id}
use Rattle.cert_check.proofs.WalkLemmas.{found_clue}
use Rattle.assess.proofs.following.force_line.Goals as goal

pub clue-requires : goal.clue-requires
clue-requires g c =
    let some : 0 < c.args.at.number = omega (arith, c.if-at-eq0.false) in
    let has : c.args.at.number ≤ lines_along c.args.at.axis c.args.picture.now = omega (arith, c.if-at-from.false, c.from.ensures, c.line_count.ensures.value) in
    found_clue c.args.picture.now c.args.clues.now _ c.args.at (line_id c.args.at) c.requires.can (some, has) refl

pub narrow-requires-clause-others : goal.narrow-requires-clause-others
narrow-requires-clause-others g c = λ row col h out. absurd (out ((c.all_lines.ensures.lines (across row)).1 h))

use Rattle.std.proofs.Common.{refl}
use Rattle.line_facts.proofs.GridLaws.{shape_with_cell}
use Rattle.trail.proofs.NoteLemmas.{begins, begins_held}
use Rattle.trail.proofs.trail.Trail.begin.Goals as goal

pub returns-clause-waits : goal.returns-clause-waits
returns-clause-waits c =
    let cell = c.args.cell in
    begins c.args.self.now c.push_branch.new.self c.hold.new.self cell.row cell.col cell.mask _ _ c.requires.some c.requires.inside.small refl refl c.in_ok-push_branch.ensures
    c.in_ok-hold.ensures.holds

pub returns-clause-held : goal.returns-clause-held
returns-clause-held c =
    let cell = c.args.cell in
    begins_held c.args.self.now c.push_branch.new.self c.hold.new.self cell.row cell.col cell.mask _ _ c.requires.some c.requires.inside.small refl refl c.in_ok-push_branch.ensures
    c.in_ok-hold.ensures.holds

pub returns-clause-same_shape : goal.returns-clause-same_shape
returns-clause-same_shape c = rw (c.in_ok-hold.ensures.holds, c.in_ok-push_branch.ensures) (shape_with_cell c.args.self.now.at_hand _ _ _)

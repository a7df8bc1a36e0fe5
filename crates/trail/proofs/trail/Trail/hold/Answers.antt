use Rattle.trail.proofs.NoteLemmas.{holds}
use Rattle.trail.proofs.trail.Trail.hold.Goals as goal

pub returns-in_ok-push-clause-holds : goal.returns-in_ok-push-clause-holds
returns-in_ok-push-clause-holds c =
    holds c.args.self.now c.self.inside.facts c.set_left.new.self c.self.inside.notes.items c.push.new.self.items (record { row = c.args.row; col = c.args.col; mask = c.left-mask.result }) c.args.held
    c.self.view_is c.left-mask.ensures.facts c.requires.in_rows c.requires.in_columns c.left-mask.ensures.value c.set_left.ensures c.in_ok-push.ensures.items

use Rattle.std.proofs.Common.{rules}
use Rattle.answers.proofs.OpenLemmas.{goal_is_low}
use Rattle.answers.proofs.assessing.open_goal.Goals as goal

pub in_black-requires : goal.in_black-requires
in_black-requires c = goal_is_low c.puzzles_are_in_two_colours.ensures c.args.text.now c.in_ok-goal.field-0 c.in-Some.goal (search rules) (search rules)

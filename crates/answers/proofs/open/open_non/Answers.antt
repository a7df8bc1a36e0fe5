use Rattle.std.proofs.Common.{rules}
use Rattle.answers.proofs.OpenLemmas.{found_is_low, goal_is_low}
use Rattle.answers.proofs.open.open_non.Goals as goal

pub in_black-requires : goal.in_black-requires
in_black-requires c = goal_is_low c.puzzles_are_in_two_colours.ensures c.args.text.now c.in_ok-clues.field-0 c.in-Some.goal (search rules) (search rules)

pub in_black-requires-in-None : goal.in_black-requires-in-None
in_black-requires-in-None c = found_is_low c.puzzles_are_in_two_colours.ensures c.args.text.now c.in_ok-clues.field-0 c.in_ok-first_picture-in-None.field-0 (search rules) (search rules)

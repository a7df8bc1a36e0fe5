use Rattle.second_search.proofs.CountLemmas.{compared, split_others}
use Rattle.second_search.proofs.counting.Counted.look_once.Goals as goal

pub come_to-requires-clause-above : goal.come_to-requires-clause-above
come_to-requires-clause-above g c = rw c.at_hand.ensures c.requires.above

pub come_to-requires-clause-same_shape : goal.come_to-requires-clause-same_shape
come_to-requires-clause-same_shape g c = rw c.at_hand.ensures c.requires.same_shape

pub come_to-requires-clause-others : goal.come_to-requires-clause-others
come_to-requires-clause-others g c = rw c.at_hand.ensures c.requires.others

pub narrow-requires-clause-others : goal.narrow-requires-clause-others
narrow-requires-clause-others g c =
    split_others c.args.self.now.trail.at_hand c.at_hand.result.now c.in-Splits.settled _ c.in-Splits.cell _ c.at_hand.ensures c.in-Splits.is c.in_ok-coming.ensures.kept

pub returns-in-Ends-clause-steps : goal.returns-in-Ends-clause-steps
returns-in-Ends-clause-steps g c = compared c.args.book.now c.args.known.now c.at_hand.result.now c.in-Ends.picture c.args.self.now.trail c.in_ok-coming.coming c.args.self.now.budget c.compare.result
    c.at_hand.ensures c.in-Ends.is c.in_ok-coming.ensures.comes c.compare.ensures

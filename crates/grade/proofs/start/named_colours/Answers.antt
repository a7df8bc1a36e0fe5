use Rattle.grade.proofs.StartLemmas.{all_named}
use Rattle.grade.proofs.start.named_colours.Goals as goal

pub returns : goal.returns
returns c = λ k. all_named c.args.book.now _ _ k (c.colours_along.ensures k) (c.colours_along-2.ensures k)

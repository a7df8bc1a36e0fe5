use Rattle.second_search.proofs.TreeLemmas.{none_fills}
use Rattle.second_search.proofs.KnownLaws.{closing_keeps_fillings, only_is_closed}
use Rattle.second_search.proofs.finding.filling_of.Goals as goal

pub returns-in-Tree : goal.returns-in-Tree
returns-in-Tree c =
    let s = c.args.scene.now in
    none_fills only_is_closed closing_keeps_fillings s.clues.now s.picture.now s.facts.now c.in-Tree.field-0 c.requires.same_shape (rw c.in-Tree.is at c.requires.decides).0

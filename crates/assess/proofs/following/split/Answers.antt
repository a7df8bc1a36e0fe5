use Rattle.std.proofs.Common.{◌≡◌, ◌-◌, sym}
use Rattle.picture.specs.Rows.{cell_at}
use Rattle.assess.proofs.BranchLemmas.{all_branches}
use Rattle.assess.proofs.following.split.Goals as goal

pub returns-clause-begun : goal.returns-clause-begun
returns-clause-begun c = λ has.
    let facts = c.args.trail.now.at_hand in
    let row = c.args.at.row - 1 in
    let col = c.args.at.col - 1 in
    let left : c.left-begun.result ≡ cell_at facts row col = rw c.at_hand.ensures at c.left-begun.ensures.value in
    let small = rw c.at_hand.ensures at (c.left-begun.ensures.facts.masks row col) in
    rw left (sym (all_branches facts row col (cell_at facts row col) small))

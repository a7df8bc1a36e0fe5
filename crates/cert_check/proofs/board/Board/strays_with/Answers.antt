use Rattle.std.proofs.Common.{◌≡◌, ℕ, List, ap, ◌∙◌, arith}
use Rattle.line_facts.specs.FactSets.{IsFacts}
use Rattle.cert_check.specs.Boards.{Boarded}
use Rattle.cert_check.specs.Strays.{stray, strays_of}
use Rattle.picture.specs.Rows.{cell_at}
use Rattle.cert_check.proofs.BoardLemmas.{Counts, counts}
use Rattle.cert_check.proofs.board.Board.strays_with.Goals as goal

counted : (c : goal.After-stray-more) → Counts c.args.picture.now c.args.self.now.at_hand c.args.cell.row c.args.cell.col c.args.held c.self.inside.strays c.stray-less.result c.stray-more.result
counted c =
    let facts : c.at_hand.result.now ≡ c.args.self.now.at_hand = c.at_hand.ensures ∙ ap {B = List (List ℕ)} (λ (b : Boarded). b.at_hand) c.self.view_is in
    let strays : c.self.inside.strays ≡ strays_of c.args.picture.now c.args.self.now.at_hand = ap (λ (b : Boarded). b.strays) c.self.view_is ∙ c.requires.strays in
    let is : IsFacts c.args.self.now.at_hand = rw facts at c.left-left.ensures.facts in
    let left : c.left-left.result ≡ cell_at c.args.self.now.at_hand c.args.cell.row c.args.cell.col = rw facts at c.left-left.ensures.value in
    counts c.args.picture.now c.args.self.now.at_hand c.args.cell.row c.args.cell.col c.args.held c.self.inside.strays c.stray-less.result c.stray-more.result
    c.cell-colour.ensures.picture is c.requires.same_shape c.requires.in_rows c.requires.in_columns strays
    (c.stray-less.ensures.value ∙ (ap (λ (m : ℕ). stray m c.cell-colour.result) left ∙ ap (stray (cell_at c.args.self.now.at_hand c.args.cell.row c.args.cell.col)) c.cell-colour.ensures.value))
    (c.stray-more.ensures.value ∙ ap (stray c.args.held) c.cell-colour.ensures.value)

pub overflow_sub-result : goal.overflow_sub-result
overflow_sub-result c = (counted c).takes

pub overflow_add-result : goal.overflow_add-result
overflow_add-result c = let few = (counted c).small in let one = c.stray-more.ensures.small in omega arith

pub returns-clause-value : goal.returns-clause-value
returns-clause-value c = (counted c).value

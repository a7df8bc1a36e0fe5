use Rattle.std.proofs.Common.{ap, sym, ◌∙◌, ◌++◌, ◌∷◌, []}
use Rattle.std.proofs.lemmas.Bool.{false≢true}
use Rattle.second_search.proofs.RowLemmas.{held_already, one_more}
use Rattle.second_search.proofs.parts.Parts.take_in.Goals as goal

pub returns-in_ok-push : goal.returns-in_ok-push
returns-in_ok-push c =
    let cell = c.args.cell in
    let cells = c.part_of.result in
    one_more c.args.facts.now c.args.self.now c.push.new.self.items cells cell.row cell.col (c.in_ok-push.ensures.items ∙ ap (λ xs. xs ++ cells ∷ []) c.self.view_is) c.requires.first
    (λ h. false≢true (sym c.if-not-has.true ∙ c.has.ensures.1 h)) c.part_of.ensures.set c.part_of.ensures.members c.requires.above

pub returns-else-not-has : goal.returns-else-not-has
returns-else-not-has c = held_already c.args.facts.now c.args.self.now c.args.cell.row c.args.cell.col c.requires.first (c.has.ensures.0 c.if-not-has.false) c.requires.above

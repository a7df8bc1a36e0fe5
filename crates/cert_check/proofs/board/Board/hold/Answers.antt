use Rattle.std.proofs.Common.{◌≡◌, ℕ, List, ap, map, sym, ◌∙◌}
use Rattle.line_facts.specs.Masks.{Masks}
use Rattle.picture.specs.LineSet.{Lines}
use Rattle.picture.specs.Rows.{with_cell}
use Rattle.cert_check.specs.Boards.{Boarded}
use Rattle.cert_check.specs.Strays.{strays_of}
use Rattle.cert_check.proofs.SettledLemmas.{changed_tallied}
use Rattle.cert_check.proofs.board.Board.hold.Goals as goal

pub returns-then-left-held-clause-tallied : goal.returns-then-left-held-clause-tallied
returns-then-left-held-clause-tallied c =
    let picture = c.args.picture.now in
    let row = c.args.cell.row in
    let col = c.args.cell.col in
    let view = c.self.view_is in
    let trail = c.self.inside.trail in
    let facts : trail.at_hand ≡ c.args.self.now.at_hand = ap {B = Masks} (λ (b : Boarded). b.at_hand) view in
    let behind = c.unsettle.ensures.behind ∙ (c.hold.ensures.behind ∙ ap {B = List Masks} (λ (b : Boarded). b.behind) view) in
    changed_tallied picture c.args.self.now c.unsettle.new.self row col c.args.held c.requires.tallied
    (c.unsettle.ensures.at_hand ∙ (c.hold.ensures.at_hand ∙ ap {B = Masks} (λ (f : Masks). with_cell f row col c.args.held) facts))
    (c.unsettle.ensures.waits
    ∙ (c.hold.ensures.waits
    ∙ (ap {B = List ℕ} (λ (b : Boarded). b.waits) view ∙ (c.requires.tallied.waits ∙ ap (map (strays_of picture)) (sym behind)))))
    (c.unsettle.ensures.strays ∙ c.strays_with-strays.ensures.value) (rw (ap {B = Lines} (λ (b : Boarded). b.settled) view) at c.unsettle.ensures.settled)

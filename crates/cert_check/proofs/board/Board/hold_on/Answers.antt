use Rattle.std.proofs.Common.{◌≡◌, ℕ, List, ap, map, sym, ◌∙◌}
use Rattle.line_facts.specs.Masks.{Masks}
use Rattle.picture.specs.CrossingLines.{crossing_at}
use Rattle.picture.specs.LineSet.{Lines, TakesOutName}
use Rattle.picture.specs.Rows.{with_cell}
use Rattle.cert_check.specs.Boards.{Boarded, UnsettlesCell}
use Rattle.cert_check.specs.Strays.{strays_of}
use Rattle.cert_check.proofs.SettledLemmas.{changed_tallied, crossed}
use Rattle.cert_check.proofs.board.Board.hold_on.Goals as goal

taken_out : (c : goal.After-take_out) → TakesOutName c.args.self.now.settled c.take_out.new.self (crossing_at c.args.line c.args.place)
taken_out c = rw (ap {B = Lines} (λ (b : Boarded). b.settled) c.self.view_is, c.crossing.ensures) at c.take_out.ensures.members

pub returns-clause-tallied : goal.returns-clause-tallied
returns-clause-tallied c =
    let picture = c.args.picture.now in
    let old = c.args.self.now in
    let line = c.args.line in
    let cell = c.on-cell.result in
    let view = c.self.view_is in
    let trail = c.self.inside.trail in
    let facts : trail.at_hand ≡ old.at_hand = ap {B = Masks} (λ (b : Boarded). b.at_hand) view in
    let behind = c.hold.ensures.behind ∙ ap {B = List Masks} (λ (b : Boarded). b.behind) view in
    let out : UnsettlesCell old.settled c.take_out.new.self cell.row cell.col = rw (c.on-cell.ensures.row, c.on-cell.ensures.col)
    (crossed line.axis line.at c.args.place old.settled c.take_out.new.self c.requires.unsettled (taken_out c)) in
    changed_tallied picture old _ cell.row cell.col c.args.held c.requires.tallied
    (c.hold.ensures.at_hand ∙ ap {B = Masks} (λ (f : Masks). with_cell f cell.row cell.col c.args.held) facts)
    (c.hold.ensures.waits
    ∙ (ap {B = List ℕ} (λ (b : Boarded). b.waits) view ∙ (c.requires.tallied.waits ∙ ap (map (strays_of picture)) (sym behind))))
    c.strays_with-strays.ensures.value out

pub returns-clause-unsettled : goal.returns-clause-unsettled
returns-clause-unsettled c = λ h. c.requires.unsettled ((taken_out c c.args.line).0 h).0

use Rattle.std.proofs.Common.{◌≡◌, ℕ, List, ◌∷◌, ap, bit_and, map, sym, ◌∙◌}
use Rattle.std.specs.Int.{bit_not, w16}
use Rattle.line_facts.specs.Masks.{Masks}
use Rattle.picture.specs.LineSet.{Lines}
use Rattle.picture.specs.Rows.{cell_at, with_cell}
use Rattle.cert_check.specs.Boards.{Boarded}
use Rattle.cert_check.specs.Strays.{strays_of}
use Rattle.cert_check.proofs.SettledLemmas.{changed_tallied}
use Rattle.cert_check.proofs.board.Board.part.Goals as goal

pub returns-clause-tallied : goal.returns-clause-tallied
returns-clause-tallied c =
    let picture = c.args.picture.now in
    let row = c.args.cell.row in
    let col = c.args.cell.col in
    let old = c.args.self.now in
    let view = c.self.view_is in
    let trail = c.self.inside.trail in
    let held = bit_and (cell_at old.at_hand row col) c.args.colours in
    let rest = bit_and (cell_at old.at_hand row col) (bit_not w16 c.args.colours) in
    let facts : trail.at_hand ≡ old.at_hand = ap {B = Masks} (λ (b : Boarded). b.at_hand) view in
    let left : c.left-left.result ≡ cell_at old.at_hand row col = rw (c.at_hand.ensures, facts) at c.left-left.ensures.value in
    let waiting : c.strays_with-waiting.result ≡ strays_of picture (with_cell old.at_hand row col held) = rw left at c.strays_with-waiting.ensures.value in
    let here : c.strays_with-strays.result ≡ strays_of picture (with_cell old.at_hand row col rest) = rw left at c.strays_with-strays.ensures.value in
    let behind = c.unsettle.ensures.behind
    ∙ (c.part.ensures.behind
    ∙ (ap {B = List Masks} (λ (f : Masks). with_cell f row col (bit_and (cell_at f row col) c.args.colours) ∷ trail.behind) facts
    ∙ ap {B = List Masks} (λ (fs : List Masks). with_cell old.at_hand row col held ∷ fs) (ap {B = List Masks} (λ (b : Boarded). b.behind) view))) in
    let waits = c.unsettle.ensures.waits
    ∙ (c.part.ensures.waits
    ∙ (ap {B = List ℕ} (λ (n : ℕ). n ∷ trail.waits) waiting
    ∙ ap {B = List ℕ} (λ (ns : List ℕ). strays_of picture (with_cell old.at_hand row col held) ∷ ns) (ap {B = List ℕ} (λ (b : Boarded). b.waits) view ∙ c.requires.tallied.waits))) in
    changed_tallied picture old c.unsettle.new.self row col rest c.requires.tallied
    (c.unsettle.ensures.at_hand
    ∙ (c.part.ensures.at_hand ∙ ap {B = Masks} (λ (f : Masks). with_cell f row col (bit_and (cell_at f row col) (bit_not w16 c.args.colours))) facts))
    (waits ∙ ap (map (strays_of picture)) (sym behind)) (c.unsettle.ensures.strays ∙ here) (rw (ap {B = Lines} (λ (b : Boarded). b.settled) view) at c.unsettle.ensures.settled)

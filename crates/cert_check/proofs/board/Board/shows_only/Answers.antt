use Rattle.std.proofs.Common.{◌≡◌, ℕ, List, ap, ◌∙◌, sym, eqb-true, eq-eqb}
use Rattle.line_facts.specs.FactSets.{IsFacts}
use Rattle.cert_check.specs.Boards.{Boarded}
use Rattle.cert_check.specs.Strays.{strays_of}
use Rattle.cert_check.proofs.StrayLemmas.{none_shows}
use Rattle.cert_check.proofs.board.Board.shows_only.Goals as goal

pub returns : goal.returns
returns c =
    let facts : c.at_hand.result.now ≡ c.args.self.now.at_hand = c.at_hand.ensures ∙ ap {B = List (List ℕ)} (λ (b : Boarded). b.at_hand) c.self.view_is in
    let strays : c.self.inside.strays ≡ strays_of c.args.picture.now c.args.self.now.at_hand = ap (λ (b : Boarded). b.strays) c.self.view_is ∙ c.requires.strays in
    let is : IsFacts c.args.self.now.at_hand = rw facts at c.height-2.ensures.facts in
    let shows = none_shows c.args.picture.now c.args.self.now.at_hand c.height.ensures.picture is c.requires.same_shape in (
      (λ e. shows.0 (sym strays ∙ eqb-true c.self.inside.strays 0 e)),
      (λ only. eq-eqb c.self.inside.strays 0 (strays ∙ shows.1 only)),
    )

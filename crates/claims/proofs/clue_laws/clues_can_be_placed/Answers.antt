use Rattle.claims.proofs.PlacementLemmas.{can_be_placed}
use Rattle.claims.proofs.clue_laws.clues_can_be_placed.Goals as goal

pub returns : goal.returns
returns c = can_be_placed

use Rattle.second_search.specs.CarriedParts.{CarriesFirst}
use Rattle.second_search.specs.Parts.{board}
use Rattle.second_search.proofs.keeper.Keeper.carry.Given as goal

abbrev pub invariant-loop-i : goal.invariant-loop-i
invariant-loop-i l = CarriesFirst (board l.before.clues.now l.before.facts.now l.before.picture.now) (board l.after.clues.now l.after.facts.now l.after.picture.now) l.after.givens.now l.self
    l.parts-inside.parts.items l.kept.items l.i

use Rattle.std.proofs.Common.{subst}
use Rattle.clues.specs.ClueBook.{Clues}
use Rattle.second_search.specs.Other.{AreSound}
use Rattle.refused.proofs.tests.of_searches.puzzle_with.Goals as goal

pub returns : goal.returns
returns c =
    let picture = c.args.picture in
    let start = c.args.start in
    let P : Clues → Type 0 = λ clues. AreSound clues start.givens picture start.facts in
    record {
      is_picture = c.height.ensures.picture;
      has_clues = c.requires.clues;
      sound = c.sound_facts.ensures.settled c.args.book start.givens picture start.facts c.args.facts c.requires.least (subst P c.requires.clues c.requires.sound);
    }

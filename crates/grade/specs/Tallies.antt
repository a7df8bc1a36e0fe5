-- The figures of looks so far, as a tally keeps them.
use Rattle.std.specs.Prelude.{◌≡◌, List, length}
use Rattle.grade.specs.declared.figures.Tally.{Tally}
use Rattle.grade.specs.Figures.{last_round, longest_wait, looks_since_fall}
use Rattle.grade.specs.Looks.{Look}

pub record Tallies (looks : List Look) (tally : Tally) : Type 0 where
  pub rounds : tally.rounds ≡ last_round looks
  pub evaluations : tally.evaluations ≡ length looks
  pub wait : tally.wait ≡ longest_wait looks
  pub since_fall : tally.since_fall ≡ looks_since_fall looks

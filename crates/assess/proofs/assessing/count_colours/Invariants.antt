use Rattle.std.proofs.Common.{◌≡◌, ◌≤◌}
use Rattle.assess.specs.Assessed.{colours_below}
use Rattle.assess.proofs.assessing.count_colours.Given as goal

abbrev pub invariant-loop-colour : goal.invariant-loop-colour
invariant-loop-colour l = record { counted : l.count ≡ colours_below l.picture l.colour; few : l.count ≤ l.colour }

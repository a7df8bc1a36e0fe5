use Rattle.std.proofs.Common.{◌≡◌, ◌≤◌, count_by, take}
use Rattle.assess.specs.Guessing.{is_split}
use Rattle.assess.proofs.guessing.count_splits.Given as goal

abbrev pub invariant-loop-line : goal.invariant-loop-line
invariant-loop-line l = record { so_far : l.count ≡ count_by is_split (take l.line-index l.lines); few : l.count ≤ l.line-index }

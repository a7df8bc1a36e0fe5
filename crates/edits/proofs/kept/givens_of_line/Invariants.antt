-- the givens so far
use Rattle.std.proofs.Common.{◌≡◌}
use Rattle.edits.specs.Design.{design_of}
use Rattle.edits.proofs.KeptLemmas.{line_givens}
use Rattle.edits.proofs.kept.givens_of_line.Given as goal

abbrev pub invariant-loop-position : goal.invariant-loop-position
invariant-loop-position l = l.givens.items ≡ line_givens (design_of l.document).marks l.line l.position

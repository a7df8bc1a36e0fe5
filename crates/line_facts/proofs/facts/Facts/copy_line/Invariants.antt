use Rattle.std.proofs.Common.{◌≡◌, ℕ, ◌<◌, get_or}
use Rattle.picture.specs.Rows.{line_of}
use Rattle.line_facts.proofs.facts.Facts.copy_line.Given as goal

abbrev pub invariant-loop-row : goal.invariant-loop-row
invariant-loop-row l = (j : ℕ) → j < l.row → get_or l.masks j 0 ≡ get_or (line_of l.self l.line) j 0

use Rattle.std.proofs.Common.{◌≡◌, ℕ, ◌<◌, get_or}
use Rattle.picture.specs.Rows.{line_of}
use Rattle.line_facts.proofs.facts.Facts.same_line.Given as goal

abbrev pub invariant-loop-place : goal.invariant-loop-place
invariant-loop-place l = (i : ℕ) → i < l.place → get_or (line_of l.self l.line) i 0 ≡ get_or (line_of l.other l.there) i 0

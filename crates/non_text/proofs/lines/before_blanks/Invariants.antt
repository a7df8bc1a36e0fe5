use Rattle.std.proofs.Common.{◌≡◌, length}
use Rattle.non_text.specs.Bytes.{before_blanks}
use Rattle.non_text.proofs.lines.before_blanks.Given as goal

abbrev pub invariant-loop-rest : goal.invariant-loop-rest
invariant-loop-rest l = before_blanks l.rest ≡ before_blanks l.bytes

abbrev pub decreases-loop-rest : goal.decreases-loop-rest
decreases-loop-rest l = length l.rest

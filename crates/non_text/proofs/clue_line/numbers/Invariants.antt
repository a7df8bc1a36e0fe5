use Rattle.std.proofs.Common.{◌≡◌, eqb}
use Rattle.std.specs.List.{slice_split}
use Rattle.non_text.specs.Capped.{all_capped}
use Rattle.non_text.specs.ClueLine.{numbers_in}
use Rattle.non_text.proofs.ClueLineLemmas.{left_to_read, length_left}
use Rattle.non_text.proofs.clue_line.numbers.Given as goal

abbrev pub invariant-loop-rest : goal.invariant-loop-rest
invariant-loop-rest l = left_to_read l.numbers.items l.rest ≡ all_capped (numbers_in (slice_split (λ b. eqb b 44) l.line))

abbrev pub decreases-loop-rest : goal.decreases-loop-rest
decreases-loop-rest l = length_left l.rest

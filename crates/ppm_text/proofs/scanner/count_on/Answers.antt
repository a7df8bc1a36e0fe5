use Rattle.std.proofs.Common.{◌≡◌, ◌+◌, ◌≤◌, ◌∷◌, ◌∙◌, arith}
use Rattle.std.proofs.lemmas.Grind.{common_steps}
use Rattle.ppm_text.proofs.Counting.{digit_counts, behind_digit}
use Rattle.ppm_text.proofs.scanner.count_on.Goals as goal

pub loop-digit-preserved : goal.loop-digit-preserved
loop-digit-preserved c =
    let rest = c.loop-digit.rest.now in
    let more = c.in-Some.behind.now in
    let d = c.in-Some.digit in
    let e : rest ≡ (48 + d) ∷ more = c.in-Some.ensures.some in
    let le : d ≤ 9 = c.in-Some.ensures.value in
    let counted = digit_counts rest more d c.loop-digit.value e le ∙ c.loop-digit.invariant.value in
    record {
      small = grind (arith, common_steps);
      value = rw c.min-value.ensures counted;
      rest = behind_digit c.args.text.now rest more d e le c.loop-digit.invariant.rest;
    }

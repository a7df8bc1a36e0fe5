use Rattle.std.proofs.Common.{sym}
use Rattle.ppm_text.proofs.ClosedNumbers.{more_digits}
use Rattle.ppm_text.proofs.scanner.closed_number.Goals as goal

pub returns-then-begins_white : goal.returns-then-begins_white
returns-then-begins_white c =
    more_digits c.args.text.now c.in_ok-first.rest.now c.in-Some.rest.now c.in-Some-first_digit.rest.now c.count_on-value.result.1.now c.in_ok-first.first c.in-Some.second c.in-Some-first_digit.third
    c.count_on-value.result.0
    c.in_ok-first.ensures.some c.in_ok-first.ensures.value c.in-Some.ensures.some c.in-Some.ensures.value c.in-Some-first_digit.ensures.some c.in-Some-first_digit.ensures.value
    c.count_on-value.ensures.value c.count_on-value.ensures.rest (sym c.if-begins_white.ensures)

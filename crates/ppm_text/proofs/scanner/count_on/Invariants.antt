use Rattle.std.proofs.Common.{length, ◌≡◌, ◌≤◌, Some}
use Rattle.ppm_text.specs.Numerals.{number_on}
use Rattle.ppm_text.specs.ClosedNumbers.{IsBehind}
use Rattle.ppm_text.proofs.scanner.count_on.Given as goal

abbrev pub invariant-loop-digit : goal.invariant-loop-digit
invariant-loop-digit l = record {
  small : l.value ≤ 65536;
  value : number_on (Some l.value) l.rest ≡ number_on (Some l.number) l.text;
  rest : IsBehind l.text l.rest;
}

abbrev pub decreases-loop-digit : goal.decreases-loop-digit
decreases-loop-digit l = length l.rest

-- How much room numbers take.
use Rattle.std.proofs.Common.{ℕ, ◌^◌, ◌<◌, ◌≤◌, length, append_assoc, arith, decimal}
use Rattle.std.proofs.lemmas.Fmt.{length-decimal-le}

pub twenty_digits : (n : ℕ) → n < 2 ^ 64 → length (decimal n) ≤ 20
twenty_digits n small = length-decimal-le 20 n (omega arith) (omega arith) small

pub ruleset long_numbers = (twenty_digits, append_assoc)

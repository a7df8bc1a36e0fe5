use Rattle.std.proofs.Common.{◌≡◌, ◌≤◌, drop}
use Rattle.std.specs.Str.{all_ascii_digits}
use Rattle.picture.proofs.NumberLemmas.{capped_after}
use Rattle.picture.proofs.numbers.number_in.Given as goal

abbrev pub invariant-loop-byte : goal.invariant-loop-byte
invariant-loop-byte l = record {
  value : capped_after l.value (drop l.byte-index l.bytes) ≡ capped_after 0 l.bytes;
  digits : all_ascii_digits (drop l.byte-index l.bytes) ≡ all_ascii_digits l.bytes;
  small : l.value ≤ 100000;
}

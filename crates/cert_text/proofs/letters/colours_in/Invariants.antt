use Rattle.std.proofs.Common.{◌≡◌, ◌≤◌, ◌<◌, ◌^◌, drop}
use Rattle.cert_text.specs.Letters.{colours_behind}
use Rattle.cert_text.proofs.letters.colours_in.Given as goal

abbrev pub invariant-loop-i : goal.invariant-loop-i
invariant-loop-i l = record {
  least : l.least ≤ 16;
  small : l.colours < 2 ^ l.least;
  some : 0 < l.i → 0 < l.colours;
  so_far : colours_behind 0 0 l.word ≡ colours_behind l.colours l.least (drop l.i l.word);
}

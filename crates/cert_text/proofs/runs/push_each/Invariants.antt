use Rattle.std.proofs.Common.{◌+◌, ◌≤◌, length}
use Rattle.cert_text.specs.Text.{words_of}
use Rattle.cert_text.proofs.RunLemmas.{EachLeft}
use Rattle.cert_text.proofs.runs.push_each.Given as goal

abbrev pub invariant-loop-word : goal.invariant-loop-word
invariant-loop-word l = record {
  left : EachLeft l.kind (words_of l.words) (words_of l.rest) l.initial.steps.items l.steps.items l.count;
  room : l.count + length l.rest ≤ length l.words;
}

abbrev pub decreases-loop-word : goal.decreases-loop-word
decreases-loop-word l = length l.rest

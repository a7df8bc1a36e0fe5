use Rattle.std.proofs.Common.{◌≡◌, ◌+◌, length}
use Rattle.command_text.specs.Words.{words_of}
use Rattle.command_text.proofs.fields.counted.Given as goal

abbrev pub invariant-loop-i : goal.invariant-loop-i
invariant-loop-i l = length (words_of l.rest) ≡ length (words_of l.left) + l._i

use Rattle.std.proofs.Common.{◌≡◌, map, take, string_bytes}
use Rattle.program.specs.Run.{texts}
use Rattle.program.proofs.running.words_of.Given as goal

abbrev pub invariant-loop-text : goal.invariant-loop-text
invariant-loop-text l = texts l.words.items ≡ map (λ text. string_bytes text) (take l.text-index l.arguments)

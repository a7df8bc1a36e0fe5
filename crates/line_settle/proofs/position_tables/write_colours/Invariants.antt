use Rattle.std.proofs.Common.{◌≡◌, ℕ, ◌<◌, ◌-◌, ◌==◌, ◌&&◌, ◌||◌, nat_lt, length, map, get_or}
use Rattle.line_settle.specs.Patterns.{allows}
use Rattle.line_facts.specs.BitSets.{has}
use Rattle.line_settle.proofs.position_tables.write_colours.Given as goal

abbrev pub invariant-loop-k : goal.invariant-loop-k
invariant-loop-k g l = (i j : ℕ) → i < length l.out
    → allows (get_or l.out i 0) j ≡ ((nat_lt j l.k && has (get_or (map g.W.Word.bits l.seen) j 0) i) || (has (get_or (map g.W.Word.bits l.seen) (length l.seen - 1) 0) i && length l.seen - 1 == j))

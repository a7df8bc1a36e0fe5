use Rattle.std.proofs.Common.{◌≡◌, ℕ, ◌-◌, ◌<◌, length, get_or, bit_and}
use Rattle.grade.proofs.needs.note_drawn.Given as goal

abbrev pub invariant-loop-place : goal.invariant-loop-place
invariant-loop-place l = record {
  same_length : length l.drawn ≡ length l.fn.drawn;
  done : (i : ℕ) → i < l.place → get_or l.drawn i 0 ≡ bit_and (get_or l.before i 0) (65535 - get_or l.after i 0);
}

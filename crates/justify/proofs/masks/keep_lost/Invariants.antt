use Rattle.std.proofs.Common.{◌≡◌, ℕ, ◌-◌, ◌<◌, ◌≤◌, ◌^◌, ◌↔◌, get_or, bit_and}
use Rattle.justify.proofs.masks.keep_lost.Given as goal

abbrev pub invariant-loop-place : goal.invariant-loop-place
invariant-loop-place l = record {
  small : (i : ℕ) → get_or l.initial.masks i 0 < 2 ^ 16;
  done : (i : ℕ) → i < l.place → get_or l.masks i 0 ≡ bit_and (get_or l.before i 0) (65535 - get_or l.initial.masks i 0);
  to_do : (i : ℕ) → l.place ≤ i → get_or l.masks i 0 ≡ get_or l.initial.masks i 0;
  none_seen : (l.seen ≡ 0) ↔ ((i : ℕ) → i < l.place → get_or l.masks i 0 ≡ 0);
}

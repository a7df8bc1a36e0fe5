use Rattle.std.proofs.Common.{◌≡◌, ◌+◌, ◌≤◌, drop}
use Rattle.non_text.proofs.ClueLineLemmas.{fits_in}
use Rattle.non_text.proofs.clue_line.have_room.Given as goal

abbrev pub invariant-loop-len : goal.invariant-loop-len
invariant-loop-len l = record {
  fits : fits_in l.room (drop l.len-index l.lens) ≡ fits_in (l.cells + 1) l.lens;
  small : l.room ≤ l.cells + 1;
}

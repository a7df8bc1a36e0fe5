use Rattle.std.proofs.Common.{◌≡◌, ℕ, ◌≤◌, get_or}
use Rattle.picture.specs.LineSet.{HasName}
use Rattle.picture.specs.Rows.{line_of}
use Rattle.line_facts.proofs.AlongLaws.{Written}
use Rattle.cert_check.specs.Boards.{IsTallied}
use Rattle.cert_check.proofs.forcing.hold_line.Given as goal

abbrev pub invariant-loop-i : goal.invariant-loop-i
invariant-loop-i l = record {
  written : Written l.line l.initial.board.at_hand l.board.at_hand l.masks l.i;
  rest : (j : ℕ) → l.i ≤ j → get_or (line_of l.board.at_hand l.line) j 0 ≡ get_or l.left j 0;
  behind : l.board.behind ≡ l.initial.board.behind;
  tallied : IsTallied l.picture l.board;
  unsettled : HasName l.board.settled l.line → ⊥;
  parts : l.board.parts ≡ l.initial.board.parts;
}

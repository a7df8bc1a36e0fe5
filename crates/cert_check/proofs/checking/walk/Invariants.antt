use Rattle.std.proofs.Common.{◌≡◌, ◌+◌, ◌≤◌, true, Some, length, drop}
use Rattle.cert_text.specs.Cert.{place_of}
use Rattle.cert_check.specs.Machined.{AffordsAll, IsRight, reached}
use Rattle.cert_check.specs.Walk.{CanCheck}
use Rattle.cert_check.proofs.WalkLemmas.{FirstSoFar}
use Rattle.cert_check.proofs.checking.walk.Given as goal

abbrev pub invariant-loop-i : goal.invariant-loop-i
invariant-loop-i g l = record {
  right : l.going ≡ true → IsRight l.claim.picture.now l.machine;
  affords : AffordsAll l.machine (drop l.i l.cert.lines);
  can : CanCheck l.claim.picture.now l.claim.clues.now (g.E.LineEngine.longest l.engine);
  same_longest : g.E.LineEngine.longest l.engine ≡ g.E.LineEngine.longest l.initial.engine;
  calls : g.E.LineEngine.calls l.initial.engine ≤ g.E.LineEngine.calls l.engine;
  work : g.E.LineEngine.calls l.engine ≤ g.E.LineEngine.calls l.initial.engine + l.i;
  so_far : FirstSoFar l.claim.picture.now (Some l.initial.machine.walk) (reached l.going l.machine.walk) (place_of l.cert.runs (2 + length l.cert.givens)) l.i l.cert.lines (drop l.i l.cert.lines);
}

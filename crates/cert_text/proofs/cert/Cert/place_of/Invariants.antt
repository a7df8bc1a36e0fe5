use Rattle.std.proofs.Common.{◌≡◌, ◌+◌, ◌≤◌, drop, length}
use Rattle.cert_text.specs.Cert.{place_of}
use Rattle.cert_text.proofs.cert.Cert.place_of.Given as goal

abbrev pub invariant-loop-run : goal.invariant-loop-run
invariant-loop-run l = record {
  so_far : place_of l.self.runs (2 + length l.self.givens) l.step ≡ place_of (drop l.run-index l.self.runs) l.place l.left;
  placed : l.place ≡ 2 + length l.self.givens + l.run-index;
  left : l.left ≤ l.step;
}

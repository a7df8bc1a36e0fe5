use Rattle.std.proofs.Common.{◌≡◌, ◌≤◌, ◌-◌, ℕ, List, length}
use Rattle.std.specs.Io.KnownBytes.{Consumes}
use Rattle.program.proofs.input.read_input.Given as goal

abbrev pub invariant-loop-bytes : goal.invariant-loop-bytes
invariant-loop-bytes g l = record {
  fits : length l.bytes.items ≤ 16777216;
  room : length l.buffer ≡ 4096;
  read : Consumes (g.R.Read.remaining l.fn.reader) (g.R.Read.remaining l.reader) l.bytes.items;
  keeps : (name : List ℕ) → g.F.Files.held l.files name ≡ g.F.Files.held l.fn.files name;
  opens : g.F.Files.opened l.files ≡ g.F.Files.opened l.fn.files;
  faultless : g.F.Files.faults l.files ≡ g.F.Files.faults l.fn.files;
}

abbrev pub decreases-loop-bytes : goal.decreases-loop-bytes
decreases-loop-bytes g l = 16777216 - length l.bytes.items

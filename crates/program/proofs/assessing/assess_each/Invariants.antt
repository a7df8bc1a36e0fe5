use Rattle.std.proofs.Common.{◌≡◌, ◌==◌, ◌+◌, ℕ, List, Option, Result, drop, length, not}
use Rattle.program_options.specs.declared.fault.ProgramFault.{ProgramFault}
use Rattle.program.specs.declared.assessing.Standing.TheVariants.{Fit}
use Rattle.program.specs.Assess.{AssessesAll}
use Rattle.program.specs.World.{World, world}
use Rattle.program.proofs.assessing.assess_each.Given as goal

abbrev pub invariant-loop-at : goal.invariant-loop-at
invariant-loop-at g l = record {
  keeps : (name : List ℕ) → g.F.Files.held l.files name ≡ g.F.Files.held l.fn.files name;
  rest : (had : Option (List ℕ)) (after : World) (r : Result (Unit {0}) ProgramFault)
      → AssessesAll (g.F.Files.held l.fn.files) l.asked (not (length l.paths == 1)) (l.at + 1) (drop l.at l.paths) l.worst
      (world (g.F.Files.opened l.files) (g.F.Files.faults l.files) had (g.W.Write.contents l.writer)) after r
      → AssessesAll (g.F.Files.held l.fn.files) l.asked (not (length l.paths == 1)) 1 l.paths Fit
      (world (g.F.Files.opened l.fn.files) (g.F.Files.faults l.fn.files) had (g.W.Write.contents l.fn.writer)) after r;
}

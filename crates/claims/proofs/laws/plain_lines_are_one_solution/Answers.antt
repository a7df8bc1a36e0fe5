use Rattle.claims.proofs.SolutionLemmas.{plain_lines}
use Rattle.claims.proofs.laws.plain_lines_are_one_solution.Goals as goal

pub returns : goal.returns
returns c = plain_lines

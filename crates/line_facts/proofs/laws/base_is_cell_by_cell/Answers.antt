use Rattle.line_facts.proofs.GivenLemmas.{cell_by_cell}
use Rattle.line_facts.proofs.laws.base_is_cell_by_cell.Goals as goal

pub returns : goal.returns
returns c = cell_by_cell

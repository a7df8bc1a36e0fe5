use Rattle.justify.proofs.PlaceLemmas.{passes_across, passes_down}
use Rattle.justify.proofs.step.passes.Goals as goal

pub returns-in-Across : goal.returns-in-Across
returns-in-Across c = passes_across c.args.line c.args.row c.args.col c.in-Across.is

pub returns-in-Down : goal.returns-in-Down
returns-in-Down c = passes_down c.args.line c.args.row c.args.col c.in-Down.is

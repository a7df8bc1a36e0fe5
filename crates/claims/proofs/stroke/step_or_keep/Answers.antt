use Rattle.claims.proofs.StepLemmas.{as_before}
use Rattle.claims.proofs.stroke.step_or_keep.Goals as goal

pub returns-in-Edit-clause-unless_memory : goal.returns-in-Edit-clause-unless_memory
returns-in-Edit-clause-unless_memory g c = as_before _ c.apply.result c.args.bench.now c.apply.new.self c.apply.ensures.refused

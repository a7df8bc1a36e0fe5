use Rattle.session.proofs.TruthLemmas.{tells_truth}
use Rattle.session.proofs.session.run_session.Goals as goal

pub returns-clause-truth : goal.returns-clause-truth
returns-clause-truth g c = tells_truth _ _ _ _ _ _ _ c.map.ensures.audited c.answer_lines.ensures

use Rattle.program.proofs.RunLemmas.{answered}
use Rattle.program.proofs.running.answer_all.Goals as goal

pub returns : goal.returns
returns g c = answered c.deref.result.now c.in_ok-words.words.items _ _ _ _ c.answer.result c.deref.ensures.value c.in_ok-words.ensures c.answer.ensures

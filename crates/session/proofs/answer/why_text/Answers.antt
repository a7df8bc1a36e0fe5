use Rattle.session.proofs.AnswerLemmas.{from_nothing}
use Rattle.session.proofs.answer.why_text.Goals as goal

pub returns : goal.returns
returns c = from_nothing _ _ _ c.in_ok-push_why.ensures c.new-text.ensures.items

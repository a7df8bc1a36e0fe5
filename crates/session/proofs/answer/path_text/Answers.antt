use Rattle.session.proofs.AnswerLemmas.{from_nothing}
use Rattle.session.proofs.answer.path_text.Goals as goal

pub returns-clause-text : goal.returns-clause-text
returns-clause-text g c =
    (c.in_ok-path.path, (c.in_ok-path.ensures.path, from_nothing _ _ _ c.in_ok-push_path.ensures c.new-text.ensures.items))
